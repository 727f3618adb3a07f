use Rattle.std.proofs.Common.{◌≡◌, ℕ, ◌<◌, length, take}
use Rattle.std.specs.List.{HoldsAt}
use Rattle.tx_events.specs.declared.record.Counters.{Counters}
use Rattle.tx_events.specs.Multis.{multi_counters}
use Rattle.checkpoint_rules.proofs.behind.multi_counters_of.Given as goal

abbrev pub invariant-loop-event : goal.invariant-loop-event
invariant-loop-event l = record {
  here : l.counters ≡ multi_counters l.base (take l.event-index l.events);
  size : length l.column.items ≡ l.event-index;
  each : (p : ℕ) → p < l.event-index → HoldsAt (λ (c : Counters). c ≡ multi_counters l.base (take p l.events)) l.column.items p;
}
