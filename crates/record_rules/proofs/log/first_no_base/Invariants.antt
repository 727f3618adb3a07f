use Rattle.std.proofs.Common.{◌≡◌, take}
use Rattle.tx_events.specs.After.{after_records}
use Rattle.record_rules.specs.Behind.{AreBases}
use Rattle.record_rules.proofs.log.first_no_base.Given as goal

abbrev pub invariant-loop-place : goal.invariant-loop-place
invariant-loop-place l = record {
  sofar : l.counters ≡ after_records l.fn.base (take l.place l.recs);
  bases : AreBases l.fn.base (take l.place l.recs);
}
