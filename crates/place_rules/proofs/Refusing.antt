-- Which member is refused, by a walk over the members.
use Rattle.std.proofs.Common.{◌≡◌, ℕ, suc, zero, ◌+◌, ◌<◌, ◌≤◌, ◌↔◌, List, [], ◌∷◌, length, get_or, take, ap, sym, subst, ◌∙◌, arith, ⊎_elim, Some}
use Rattle.std.specs.List.{slice_get}
use Rattle.std.proofs.lemmas.Bool.{cases_lt}
use Rattle.std.proofs.lemmas.List.{take_more}
use Rattle.tx_events.proofs.ListSteps.{all_push}
use Rattle.tx_model.specs.declared.command.Pair.{Pair}
use Rattle.report_law.specs.MultiLines.{IsUngiven}
use Rattle.place_rules.specs.Members.{AreGivenBelow, HasOld, HasUngiven, IsOldPair}
use Rattle.place_rules.proofs.Looking.{getting, got, within}

given_at : (next : ℕ) (pairs : List Pair) (i n : ℕ) (p : Pair) → AreGivenBelow next (take i pairs) → n < i → slice_get pairs n ≡ Some p → IsUngiven next p.x.number → ⊥
given_at next [] i n p a l f u = absurd cc
given_at next (y ∷ ys) zero n p a l f u = absurd (omega arith)
given_at next (y ∷ ys) (suc i) zero p a l f u = let same : y ≡ p = cc in a.0 (subst (λ (q : Pair). IsUngiven next q.x.number) (sym same) u)
given_at next (y ∷ ys) (suc i) (suc n) p a l f u = given_at next ys i n p a.1 (omega arith) f u

pub given_more : (next : ℕ) (pairs : List Pair) (i : ℕ) (d : Pair) → AreGivenBelow next (take i pairs) → i < length pairs → (IsUngiven next (get_or pairs i d).x.number → ⊥) → AreGivenBelow next (take (i + 1) pairs)
given_more next pairs i d a l g =
    subst (AreGivenBelow next) (sym (take_more pairs i d l))
    (all_push (λ (q : Pair). IsUngiven next q.x.number → ⊥) (take i pairs) (get_or pairs i d) a g)

-- before, at or behind place i
module _ (pairs : List Pair) (i : ℕ) (d : Pair) (low : i < length pairs) where
  at_place : (n : ℕ) (q : Pair) → slice_get pairs n ≡ Some q → n ≡ i → get_or pairs i d ≡ q
  at_place n q f e = got pairs i q d (ap (slice_get pairs) (sym e) ∙ f)

  pub first_is : (next x : ℕ) → AreGivenBelow next (take i pairs) → IsUngiven next (get_or pairs i d).x.number → ((get_or pairs i d).x.number ≡ x) ↔ HasUngiven next pairs x
  first_is next x a u = (
    λ e. record { number = i; pair = get_or pairs i d; stands = getting pairs i d low; its = e; others = a; ungiven = subst (IsUngiven next) e u },
    λ h. ⊎_elim
        (λ (l : h.number < i). absurd (given_at next pairs i h.number h.pair a l h.stands (subst (IsUngiven next) (sym h.its) h.ungiven)))
        (λ (l : i ≤ h.number). ⊎_elim
        (λ (m : i < h.number). absurd (given_at next pairs h.number i (get_or pairs i d) h.others m (getting pairs i d low) u))
        (λ (m : h.number ≤ i). ap (λ (q : Pair). q.x.number) (at_place h.number h.pair h.stands (omega arith)) ∙ h.its)
        (cases_lt i h.number))
        (cases_lt h.number i),
  )

abbrev pub NoneOld : ℕ → ℕ → List Pair → ℕ → Type 0
NoneOld next oldest pairs i = (n : ℕ) (q : Pair) → n < i → slice_get pairs n ≡ Some q → IsOldPair next oldest q → ⊥

module _ (pairs : List Pair) (i : ℕ) (d : Pair) (low : i < length pairs) (next oldest : ℕ) where
  pub none_old_more : NoneOld next oldest pairs i → (IsOldPair next oldest (get_or pairs i d) → ⊥) → NoneOld next oldest pairs (i + 1)
  none_old_more before fails n q l f old = ⊎_elim
      (λ (u : n < i). before n q u f old)
      (λ (u : i ≤ n). fails (subst (IsOldPair next oldest) (sym (at_place pairs i d low n q f (omega arith))) old))
      (cases_lt n i)

  pub old_here : AreGivenBelow next (take i pairs) → IsOldPair next oldest (get_or pairs i d) → HasOld next pairs oldest
  old_here a old = record { number = i; pair = get_or pairs i d; stands = getting pairs i d low; others = a; normal = old.0; older = old.1 }

  -- behind one that isn't given none is asked
  pub none_behind : NoneOld next oldest pairs (i + 1) → IsUngiven next (get_or pairs i d).x.number → HasOld next pairs oldest → ⊥
  none_behind none u h = ⊎_elim
      (λ (m : i < h.number). given_at next pairs h.number i (get_or pairs i d) h.others m (getting pairs i d low) u)
      (λ (m : h.number ≤ i). none h.number h.pair (omega arith) h.stands (h.normal, h.older))
      (cases_lt i h.number)

pub no_ungiven : (next : ℕ) (pairs : List Pair) (i x : ℕ) → AreGivenBelow next (take i pairs) → length pairs ≤ i → HasUngiven next pairs x → ⊥
no_ungiven next pairs i x a l h =
    let low : h.number < length pairs = within pairs h.number h.pair h.stands in
    given_at next pairs i h.number h.pair a (omega arith) h.stands (subst (IsUngiven next) (sym h.its) h.ungiven)

pub no_old : (next oldest : ℕ) (pairs : List Pair) (i : ℕ) → NoneOld next oldest pairs i → length pairs ≤ i → HasOld next pairs oldest → ⊥
no_old next oldest pairs i none l h =
    let low : h.number < length pairs = within pairs h.number h.pair h.stands in
    none h.number h.pair (omega arith) h.stands (h.normal, h.older)
