use Rattle.std.proofs.Common.{◌≡◌, drop}
use Rattle.wal_records.specs.Lawful.{ascend_from}
use Rattle.wal_records.proofs.lawful.ascends.Given as goal

abbrev pub invariant-loop-id : goal.invariant-loop-id
invariant-loop-id l = ascend_from l.last (drop l.id-index l.ids) ≡ ascend_from l.fn.top l.ids
