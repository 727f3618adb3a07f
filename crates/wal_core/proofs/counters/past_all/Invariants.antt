use Rattle.std.proofs.Common.{◌≡◌, drop}
use Rattle.tx_events.specs.After.{past_ids}
use Rattle.wal_core.proofs.counters.past_all.Given as goal

abbrev pub invariant-loop-id : goal.invariant-loop-id
invariant-loop-id l = past_ids l.next (drop l.id-index l.ids) ≡ past_ids l.fn.next l.ids
