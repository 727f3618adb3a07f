use Rattle.bank_follows.proofs.SlotSetting.{member_set}
use Rattle.bank_follows.proofs.StateSetting.{states_set}
use Rattle.bank_follows.proofs.WordSetting.{offset_set, parent_set}
use Rattle.bank_follows.proofs.laws.sets_as_said.Goals as goal

pub returns-clause-states : goal.returns-clause-states
returns-clause-states c = states_set

pub returns-clause-parent : goal.returns-clause-parent
returns-clause-parent c = parent_set

pub returns-clause-offset : goal.returns-clause-offset
returns-clause-offset c = offset_set

pub returns-clause-member : goal.returns-clause-member
returns-clause-member c = member_set
