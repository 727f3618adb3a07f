use Rattle.std.proofs.Common.{◌≡◌, ◌-◌}
use Rattle.wal_records.specs.Reading.{members_at}
use Rattle.wal_records.proofs.Loop.{with_front}
use Rattle.wal_records.proofs.reading.members_from.Given as goal

abbrev pub invariant-loop : goal.invariant-loop
invariant-loop l = with_front l.members (members_at (l.count - l.counter) l.rest.now) ≡ members_at l.fn.count l.fn.rest.now
