use Rattle.std.proofs.Common.{get_or, ◌≡◌, ℕ, take, refl, sym, ◌∙◌, arith}
use Rattle.std.proofs.lemmas.Bool.{false≢true}
use Rattle.tx_events.specs.Snapshots.{snapshot_data}
use Rattle.report_law.specs.Kinds.{IsSnapAt}
use Rattle.place_rules.proofs.Looking.{its_place, none_at_all, none_more}
use Rattle.place_rules.proofs.Snaps.{right_iff, snap_by, snap_low}
use Rattle.place_rules.proofs.snapshots.is_snapped.Goals as goal

pub is_right-requires : goal.is_right-requires
is_right-requires g c = snap_low g.said.first g.said.events g.said.told c.args.snaps.now g.said.by (get_or c.args.run.now c.loop-place.place-index 0) c.requires.1.0 (its_place g.said.events g.said.by c.args.run.now c.loop-place.place-index c.requires.0 (omega arith))

pub returns-then-is_right : goal.returns-then-is_right
returns-then-is_right g c =
    let its = its_place g.said.events g.said.by c.args.run.now c.loop-place.place-index c.requires.0 (omega arith) in
    let q = (right_iff g.said c.args.snaps.now (get_or c.args.run.now c.loop-place.place-index 0) c.requires.1.0 c.requires.1.1 its).0 (c.is_right.ensures.0 c.if-is_right.true) in
    (λ t. (get_or c.args.run.now c.loop-place.place-index 0, q.0, q.1), λ x. refl)

pub loop-place-preserved : goal.loop-place-preserved
loop-place-preserved g c =
    let its = its_place g.said.events g.said.by c.args.run.now c.loop-place.place-index c.requires.0 (omega arith) in
    record {
      none = none_more (λ (p : ℕ). IsSnapAt g.said.events g.said.by p × (g.said.lists ≡ snapshot_data g.said.first (take p g.said.events))) c.args.run.now c.loop-place.place-index c.loop-place.invariant.none
          (λ q. false≢true (sym c.if-is_right.false ∙ c.is_right.ensures.1 ((right_iff g.said c.args.snaps.now (get_or c.args.run.now c.loop-place.place-index 0) c.requires.1.0 c.requires.1.1 its).1 q)));
    }

pub returns : goal.returns
returns g c = (
  λ t. absurd (false≢true t),
  λ s. absurd (none_at_all (λ (p : ℕ). IsSnapAt g.said.events g.said.by p × (g.said.lists ≡ snapshot_data g.said.first (take p g.said.events))) g.said.events g.said.by c.args.run.now c.loop-place.place-index c.requires.0 (λ p q. snap_by g.said.events g.said.by p q.0) c.loop-place.invariant.none (omega arith) s.0 (s.1, s.2)),
)
