use Rattle.std.proofs.Common.{◌≡◌, ◌-◌}
use Rattle.wal_core.specs.SoFar.{history_read, joins}
use Rattle.wal_core.proofs.batch_records.read_more.Given as goal

abbrev pub invariant-loop : goal.invariant-loop
invariant-loop l = joins (l.count - l.counter) l.rest (history_read l.past) ≡ joins l.fn.count l.bytes (history_read l.fn.past)
