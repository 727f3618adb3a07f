use Rattle.std.proofs.Common.{◌≡◌, inl, inr, ℕ, ◌<◌, ◌≤◌, length, false, sym, ◌∙◌, arith, subst}
use Rattle.wal_records.specs.Lawful.{is_id}
use Rattle.wal_records.proofs.LawfulTests.{not_ascending}
use Rattle.wal_records.proofs.lawful.ascends.Goals.{then-number-last-via-then-number-last, then-number-last-via-else-number-last+then-not-is_full_id}
use Rattle.wal_records.proofs.lawful.ascends.Goals as goal

pub returns-then-number-last : goal.returns-then-number-last
returns-then-number-last c =
    let lt : c.loop-id.id-index < length c.args.ids.now = omega arith in
    elim c.then-number-last.branch [
      | then-number-last-via-then-number-last w ↦
          sym (not_ascending c.loop-id.last c.args.ids.now c.loop-id.id-index c.id-item.result lt (inl (subst (λ (x : ℕ). x ≤ c.loop-id.last) c.id-item.is (omega (arith, c.number.ensures.value, w.if-number-last.true))))) ∙ c.loop-id.invariant
      | then-number-last-via-else-number-last+then-not-is_full_id w ↦
          sym (not_ascending c.loop-id.last c.args.ids.now c.loop-id.id-index c.id-item.result lt (inr (subst (λ (x : ℕ). is_id x ≡ false) c.id-item.is (sym w.is_full_id.ensures ∙ w.if-not-is_full_id.true)))) ∙ c.loop-id.invariant
    ]
