use Rattle.replay_core.proofs.LaterMultis.{checkpoint_fits_members, checkpoint_fits_offsets}
use Rattle.replay_core.proofs.laws.checkpoint_fits_multis.Goals as goal

pub returns-clause-offsets : goal.returns-clause-offsets
returns-clause-offsets c = checkpoint_fits_offsets

pub returns-clause-members : goal.returns-clause-members
returns-clause-members c = checkpoint_fits_members
