use Rattle.replay_core.proofs.FittingOffsets.{shows_offset_base}
use Rattle.replay_core.proofs.FittingMembers.{shows_member_base}
use Rattle.replay_core.proofs.laws.shows_multis.Goals as goal

pub returns-clause-offsets : goal.returns-clause-offsets
returns-clause-offsets c = shows_offset_base

pub returns-clause-members : goal.returns-clause-members
returns-clause-members c = shows_member_base
