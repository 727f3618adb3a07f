-- Which of the snapshots stand between two numbers of first ones.
use Rattle.std.proofs.Common.{◌≡◌, ℕ, ◌+◌, ◌^◌, ◌<◌, ◌≤◌, ◌↔◌, ◌⊎◌, inl, inr, max, min, IsTrue, List, Bool, true, false, cond, nat_lt, Some, take, refl, sym, ◌∙◌, arith, ⊎_elim}
use Rattle.std.specs.List.{slice_get}
use Rattle.std.proofs.lemmas.Bool.{cases_Bool, cases_lt, false≢true}
use Rattle.std.proofs.lemmas.Bool.Decides.{nat_tests}
use Rattle.tx_events.specs.Ids.{low_half}
use Rattle.tx_events.specs.declared.event.By.{By}
use Rattle.tx_events.specs.declared.event.Event.{Event}
use Rattle.tx_events.specs.declared.multi.Member.{Member}
use Rattle.tx_events.specs.declared.multi.Mode.{Mode}
use Rattle.tx_events.specs.declared.record.Counters.{Counters}
use Rattle.tx_events.specs.Snapshots.{snapshot_xmax}
use Rattle.tx_events.specs.Visible.{is_visible}
use Rattle.tx_model.specs.declared.reply.Verdict.TheVariants as verdicts
use Rattle.report_law.specs.MultiLines.{IsTold}
use Rattle.multi_rules.specs.declared.taken.Taken.{Taken}
use Rattle.multi_rules.specs.Snapped.{AreBetween, AreFirst, AreTaken, IsFarBelow, IsNotFarAbove}
use Rattle.multi_rules.specs.Telling.{IsCarriedPast, IsToldBy, IsUnseen, Telling, too_old_span}
use Rattle.multi_rules.proofs.Judging.{hidden_iff, old_iff, visible_iff}

lt_yes : (x n : ℕ) → nat_lt x n ≡ true → x < n
lt_yes x n e = grind (arith, nat_tests)

lt_no : (x n : ℕ) → nat_lt x n ≡ false → n ≤ x
lt_no x n e = grind (arith, nat_tests)

-- none tells what never is so
pub none_between : (P : Taken → Type 0) (taken : List Taken) → ((t : Taken) → P t → ⊥) → AreBetween P taken (record { from = 0; end = 0 })
none_between P taken never = record {
  within = λ i l m. absurd (omega arith);
  each = λ i t e. (λ q. absurd (never t q), λ z. absurd (let l = z.1 in omega arith));
}

module _ (base : Counters) (h : List Event) (of : Telling) (by : By) (member : Member) (id : ℕ) (mode : Mode) (taken : List Taken) (are : AreTaken base.next h by taken) (same_mode : mode ≡ member.mode) (same_half : low_half id ≡ low_half member.id) (below end : ℕ)
    (far : AreFirst (IsFarBelow id) taken below) (near : AreFirst (IsNotFarAbove id) taken end) where
  xmax_at : (i : ℕ) (t : Taken) → slice_get taken i ≡ Some t → t.xmax ≡ snapshot_xmax base.next (take t.place h)
  xmax_at i t e = (are.each i t e).1

  not_below : (i : ℕ) (t : Taken) → slice_get taken i ≡ Some t → id < snapshot_xmax base.next (take t.place h) + 2 ^ 31 → below ≤ i
  not_below i t e l = let x = xmax_at i t e in ⊎_elim (λ (u : i < below). let f = (far.each i t e).1 u in absurd (omega arith)) (λ (u : below ≤ i). u) (cases_lt i below)

  from_below : (i : ℕ) (t : Taken) → slice_get taken i ≡ Some t → below ≤ i → id < snapshot_xmax base.next (take t.place h) + 2 ^ 31
  from_below i t e l =
      let x = xmax_at i t e in
      ⊎_elim (λ (u : id < t.xmax + 2 ^ 31). omega arith) (λ (u : t.xmax + 2 ^ 31 ≤ id). let f = (far.each i t e).0 u in absurd (omega arith)) (cases_lt id (t.xmax + 2 ^ 31))

  is_below : (i : ℕ) (t : Taken) → slice_get taken i ≡ Some t → snapshot_xmax base.next (take t.place h) + 2 ^ 31 ≤ id → i < below
  is_below i t e l = let x = xmax_at i t e in (far.each i t e).0 (omega arith)

  of_below : (i : ℕ) (t : Taken) → slice_get taken i ≡ Some t → i < below → snapshot_xmax base.next (take t.place h) + 2 ^ 31 ≤ id
  of_below i t e l = let x = xmax_at i t e in let f = (far.each i t e).1 l in omega arith

  before_end : (i : ℕ) (t : Taken) → slice_get taken i ≡ Some t → snapshot_xmax base.next (take t.place h) ≤ id + 2 ^ 31 → i < end
  before_end i t e l = let x = xmax_at i t e in (near.each i t e).0 (omega arith)

  of_end : (i : ℕ) (t : Taken) → slice_get taken i ≡ Some t → i < end → snapshot_xmax base.next (take t.place h) ≤ id + 2 ^ 31
  of_end i t e l = let x = xmax_at i t e in let f = (near.each i t e).1 l in omega arith

  -- those far below it aren't far above it
  below_end : (i : ℕ) (t : Taken) → slice_get taken i ≡ Some t → i < below → i < end
  below_end i t e l = let f = of_below i t e l in before_end i t e (omega arith)

  pub visible_between : (unseen from : ℕ) → AreFirst (IsUnseen of.ids h id) taken unseen → from ≡ max below unseen
      → AreBetween (IsToldBy base h of member (record { id = id; mode = mode; verdict = verdicts.Visible })) taken (record { from = from; end = end })
  visible_between unseen from u is = record {
    within = λ i l m. let a = near.within in omega arith;
    each = λ i t e.
        let iff = visible_iff base of.ids h of.round t.place member id mode same_mode same_half in (
          λ s.
              let z = iff.0 s in
              let a = not_below i t e z.1 in
              let b : unseen ≤ i = ⊎_elim (λ (l : i < unseen). absurd (false≢true (sym ((u.each i t e).1 l) ∙ z.2))) (λ (l : unseen ≤ i). l) (cases_lt i unseen) in
              (omega arith, before_end i t e z.0),
          λ z.
              let a = z.0 in
              let v : is_visible of.ids (take t.place h) id ≡ true = ⊎_elim (λ (y : is_visible of.ids (take t.place h) id ≡ true). y) (λ (n : is_visible of.ids (take t.place h) id ≡ false). let l = (u.each i t e).0 n in absurd (omega arith)) (cases_Bool (is_visible of.ids (take t.place h) id)) in
              iff.1 (of_end i t e z.1, from_below i t e (omega arith), v),
        );
  }

  pub hidden_between : (unseen to : ℕ) → AreFirst (IsUnseen of.ids h id) taken unseen → to ≡ min end unseen
      → AreBetween (IsToldBy base h of member (record { id = id; mode = mode; verdict = verdicts.Hidden })) taken (record { from = below; end = to })
  hidden_between unseen to u is = record {
    within = λ i l m. let a = near.within in omega arith;
    each = λ i t e.
        let iff = hidden_iff base of.ids h of.round t.place member id mode same_mode same_half in (
          λ s.
              let z = iff.0 s in
              let a = before_end i t e z.0 in
              let b = (u.each i t e).0 z.2 in
              (not_below i t e z.1, omega arith),
          λ z.
              let a = z.1 in
              iff.1 (of_end i t e (omega arith), from_below i t e z.0, (u.each i t e).1 (omega arith)),
        );
  }

  old_each : (i : ℕ) (t : Taken) → IsTold base of.ids h of.round t.place member (record { id = id; mode = mode; verdict = verdicts.TooOld })
      ↔ (((snapshot_xmax base.next (take t.place h) ≤ id + 2 ^ 31) × (id < snapshot_xmax base.next (take t.place h) + 2 ^ 31) × IsCarriedPast base h of.round id) ⊎ ((snapshot_xmax base.next (take t.place h) + 2 ^ 31 ≤ id) × (id < 2 ^ 32)))
  old_each i t = old_iff base of.ids h of.round t.place member id mode same_mode same_half

  -- with each answer of whether it is below 2^32, and of whether an oldest id past it may be carried
  old_cases : (small carried : Bool) → (small ≡ true → id < 2 ^ 32) → (small ≡ false → 2 ^ 32 ≤ id) → (carried ≡ true → IsCarriedPast base h of.round id) → (IsCarriedPast base h of.round id → carried ≡ true)
      → AreBetween (IsToldBy base h of member (record { id = id; mode = mode; verdict = verdicts.TooOld })) taken (record { from = cond small 0 below; end = cond carried end (cond small below 0) })
  old_cases true true lt ge may only = record {
    within = λ i l m. let a = near.within in omega arith;
    each = λ i t e. (
      λ s. (
        omega arith,
        ⊎_elim
            (λ (z : (snapshot_xmax base.next (take t.place h) ≤ id + 2 ^ 31) × (id < snapshot_xmax base.next (take t.place h) + 2 ^ 31) × IsCarriedPast base h of.round id). before_end i t e z.0)
            (λ (z : (snapshot_xmax base.next (take t.place h) + 2 ^ 31 ≤ id) × (id < 2 ^ 32)). below_end i t e (is_below i t e z.0))
            ((old_each i t).0 s),
      ),
      λ z. (old_each i t).1
          (⊎_elim
          (λ (u : i < below). inr (of_below i t e u, lt refl))
          (λ (u : below ≤ i). inl (of_end i t e z.1, from_below i t e u, may refl))
          (cases_lt i below)),
    );
  }
  old_cases true false lt ge may only = record {
    within = λ i l m. let a = far.within in omega arith;
    each = λ i t e. (
      λ s. (
        omega arith,
        ⊎_elim
            (λ (z : (snapshot_xmax base.next (take t.place h) ≤ id + 2 ^ 31) × (id < snapshot_xmax base.next (take t.place h) + 2 ^ 31) × IsCarriedPast base h of.round id). absurd (false≢true (only z.2)))
            (λ (z : (snapshot_xmax base.next (take t.place h) + 2 ^ 31 ≤ id) × (id < 2 ^ 32)). is_below i t e z.0)
            ((old_each i t).0 s),
      ),
      λ z. (old_each i t).1 (inr (of_below i t e z.1, lt refl)),
    );
  }
  old_cases false true lt ge may only = record {
    within = λ i l m. let a = near.within in omega arith;
    each = λ i t e. (
      λ s. ⊎_elim
          (λ (z : (snapshot_xmax base.next (take t.place h) ≤ id + 2 ^ 31) × (id < snapshot_xmax base.next (take t.place h) + 2 ^ 31) × IsCarriedPast base h of.round id). (not_below i t e z.1, before_end i t e z.0))
          (λ (z : (snapshot_xmax base.next (take t.place h) + 2 ^ 31 ≤ id) × (id < 2 ^ 32)). let a = z.1 in let b = ge refl in absurd (omega arith))
          ((old_each i t).0 s),
      λ z. (old_each i t).1 (inl (of_end i t e z.1, from_below i t e z.0, may refl)),
    );
  }
  old_cases false false lt ge may only = record {
    within = λ i l m. absurd (omega arith);
    each = λ i t e. (
      λ s. ⊎_elim
          (λ (z : (snapshot_xmax base.next (take t.place h) ≤ id + 2 ^ 31) × (id < snapshot_xmax base.next (take t.place h) + 2 ^ 31) × IsCarriedPast base h of.round id). absurd (false≢true (only z.2)))
          (λ (z : (snapshot_xmax base.next (take t.place h) + 2 ^ 31 ≤ id) × (id < 2 ^ 32)). let a = z.1 in let b = ge refl in absurd (omega arith))
          ((old_each i t).0 s),
      λ z. absurd (let l = z.1 in omega arith),
    );
  }

  pub old_between : (carried : Bool) → IsTrue carried ↔ IsCarriedPast base h of.round id → AreBetween (IsToldBy base h of member (record { id = id; mode = mode; verdict = verdicts.TooOld })) taken (too_old_span below end id carried)
  old_between carried iff = old_cases (nat_lt id (2 ^ 32)) carried (λ t. lt_yes id (2 ^ 32) t) (λ f. lt_no id (2 ^ 32) f) iff.0 iff.1
