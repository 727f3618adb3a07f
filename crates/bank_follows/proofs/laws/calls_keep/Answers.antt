use Rattle.bank_follows.proofs.Stores.{members_keep, offsets_keep, parents_keep, xact_keeps}
use Rattle.bank_follows.proofs.laws.calls_keep.Goals as goal

pub returns-clause-xact : goal.returns-clause-xact
returns-clause-xact c = xact_keeps

pub returns-clause-parents : goal.returns-clause-parents
returns-clause-parents c = parents_keep

pub returns-clause-offsets : goal.returns-clause-offsets
returns-clause-offsets c = offsets_keep

pub returns-clause-members : goal.returns-clause-members
returns-clause-members c = members_keep
