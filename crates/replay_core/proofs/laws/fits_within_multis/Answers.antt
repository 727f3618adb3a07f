use Rattle.replay_core.proofs.FittingOffsets.{fits_within_offsets}
use Rattle.replay_core.proofs.FittingMembers.{fits_within_members}
use Rattle.replay_core.proofs.laws.fits_within_multis.Goals as goal

pub returns-clause-offsets : goal.returns-clause-offsets
returns-clause-offsets c = fits_within_offsets

pub returns-clause-members : goal.returns-clause-members
returns-clause-members c = fits_within_members
