use Rattle.replay_core.proofs.LaterMultis.{cut_fits_members, cut_fits_offsets}
use Rattle.replay_core.proofs.laws.cut_fits_multis.Goals as goal

pub returns-clause-offsets : goal.returns-clause-offsets
returns-clause-offsets c = cut_fits_offsets

pub returns-clause-members : goal.returns-clause-members
returns-clause-members c = cut_fits_members
