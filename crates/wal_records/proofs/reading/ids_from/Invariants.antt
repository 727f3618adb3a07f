use Rattle.std.proofs.Common.{◌≡◌, ◌-◌}
use Rattle.wal_records.specs.Reading.{ids_at}
use Rattle.wal_records.proofs.Loop.{with_front}
use Rattle.wal_records.proofs.reading.ids_from.Given as goal

abbrev pub invariant-loop : goal.invariant-loop
invariant-loop l = with_front l.ids (ids_at (l.count - l.counter) l.below l.rest.now) ≡ ids_at l.fn.count l.fn.last l.fn.rest.now
