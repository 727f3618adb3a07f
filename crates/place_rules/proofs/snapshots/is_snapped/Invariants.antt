use Rattle.std.proofs.Common.{◌≡◌, ℕ, take}
use Rattle.tx_events.specs.Snapshots.{snapshot_data}
use Rattle.report_law.specs.Kinds.{IsSnapAt}
use Rattle.place_rules.proofs.Looking.{NoneSoFar}
use Rattle.place_rules.proofs.snapshots.is_snapped.Given as goal

abbrev pub invariant-loop-place : goal.invariant-loop-place
invariant-loop-place g l = record {
  none : NoneSoFar (λ (p : ℕ). IsSnapAt g.said.events g.said.by p × (g.said.lists ≡ snapshot_data g.said.first (take p g.said.events))) l.run l.place-index;
}
