use Rattle.std.proofs.Common.{◌≡◌, drop}
use Rattle.tx_events.specs.After.{past_ids, ids_of}
use Rattle.wal_core.proofs.counters.past_members.Given as goal

abbrev pub invariant-loop-member : goal.invariant-loop-member
invariant-loop-member l = past_ids l.next (ids_of (drop l.member-index l.members)) ≡ past_ids l.fn.next (ids_of l.members)
