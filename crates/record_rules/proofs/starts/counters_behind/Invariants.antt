use Rattle.std.proofs.Common.{◌≡◌, take}
use Rattle.tx_events.specs.After.{after_records}
use Rattle.record_rules.proofs.starts.counters_behind.Given as goal

abbrev pub invariant-loop-rec : goal.invariant-loop-rec
invariant-loop-rec l = l.counters ≡ after_records l.fn.base (take l.rec-index l.recs)
