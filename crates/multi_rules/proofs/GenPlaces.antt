-- In a legal history a multixact is given at the last place at which it is the next one.
use Rattle.std.proofs.Common.{◌≡◌, ℕ, zero, suc, ◌+◌, ◌<◌, ◌≤◌, ⊎_elim, Bool, true, false, cond, nat_lt, Some, List, [], ◌∷◌, ◌++◌, length, take, ap, sym, ◌∙◌, arith}
use Rattle.std.specs.List.{slice_get}
use Rattle.std.proofs.lemmas.Bool.{cases_lt}
use Rattle.tx_events.specs.declared.event.By.{By}
use Rattle.tx_events.specs.declared.multi.Member.{Member}
use Rattle.tx_events.specs.declared.multi.MultiEvent.{MultiEvent}
use Rattle.tx_events.specs.declared.multi.MultiEvent.TheVariants as multis
use Rattle.tx_events.specs.declared.record.Counters.{Counters}
use Rattle.tx_events.specs.Ids.{low_half, next_multi}
use Rattle.tx_events.specs.Multis.{AreLegalMultis, BaseOffset, next_made}
use Rattle.multi_store.proofs.MadeSteps.{next_gen}
use Rattle.place_columns.specs.declared.span.Span.{Span}
use Rattle.place_columns.specs.Columns.{IsWhere}
use Rattle.history_places.specs.MultiTold.{next_in}
use Rattle.multi_rules.specs.Gens.{IsGenAt, IsOnlyGenAt, NoGen}

pub bound_at : {X : Type 0} (xs : List X) (p : ℕ) (x : X) → slice_get xs p ≡ Some x → p < length xs
bound_at [] p x e = absurd cc
bound_at (y ∷ xs) zero x e = omega arith
bound_at (y ∷ xs) (suc p) x e = let l = bound_at xs p x e in omega arith

front_more : {X : Type 0} (xs : List X) (p : ℕ) (x : X) → slice_get xs p ≡ Some x → take (p + 1) xs ≡ take p xs ++ x ∷ []
front_more xs p x e = let n : p + 1 ≡ suc p = omega arith in ap (λ k. take k xs) n ∙ more xs p x e
  where
    more : {X : Type 0} (xs : List X) (p : ℕ) (x : X) → slice_get xs p ≡ Some x → take (suc p) xs ≡ take p xs ++ x ∷ []
    more [] p x e = absurd cc
    more (y ∷ xs) zero x e = let same : y ≡ x = cc in ap (λ z. z ∷ []) same
    more (y ∷ xs) (suc p) x e = ap (λ t. y ∷ t) (more xs p x e)

over : (n : ℕ) → n < next_multi n
over n = one (nat_lt (low_half (n + 1)) 1)
  where
    one : (b : Bool) → n < cond b (n + 2) (n + 1)
    one true = omega arith
    one false = omega arith

module _ (base : Counters) (known : BaseOffset) (h : List MultiEvent) (legal : AreLegalMultis base known h) where
  -- it is the next one there, and not behind
  next_at : (multi p : ℕ) → IsGenAt h multi p → multi ≡ next_in base (take p h)
  next_at multi p g = (legal p (multis.Gen g.0 multi g.1 g.2) g.3).next

  next_behind : (multi p : ℕ) → IsGenAt h multi p → multi < next_in base (take (p + 1) h)
  next_behind multi p g =
      let e : next_in base (take (p + 1) h) ≡ next_multi (next_in base (take p h)) =
      ap (next_made base.multi) (front_more h p (multis.Gen g.0 multi g.1 g.2) g.3) ∙ next_gen base.multi (take p h) g.0 multi g.1 g.2 in
      let o = over (next_in base (take p h)) in
      let n = next_at multi p g in
      omega arith

  last_place : (multi q : ℕ) (span : Span) → IsWhere (next_in base) h multi span → IsGenAt h multi q → (span.from ≤ q) × (q + 1 ≡ span.end)
  last_place multi q span is g =
      let l = bound_at h q (multis.Gen g.0 multi g.1 g.2) g.3 in
      let s = (is.each q (omega arith)).0 (sym (next_at multi q g)) in
      let a = s.0 in let b = s.1 in
      let e : q + 1 ≡ span.end = ⊎_elim
      (λ (u : q + 1 < span.end).
      let f : span.from ≤ q + 1 = omega arith in
      let t : next_in base (take (q + 1) h) ≡ multi = (is.each (q + 1) (omega arith)).1 (f, u) in
      let n = next_behind multi q g in absurd (omega arith))
      (λ (u : span.end ≤ q + 1). omega arith)
      (cases_lt (q + 1) span.end) in
      (a, e)

  pub only_at : (multi place : ℕ) (span : Span) (g : By) (m offset : ℕ) (members : List Member) → IsWhere (next_in base) h multi span → place + 1 ≡ span.end → span.from ≤ place → slice_get h place ≡ Some (multis.Gen g m offset members) → IsOnlyGenAt h multi place
  only_at multi place span g m offset members is end from e =
      let l = bound_at h place (multis.Gen g m offset members) e in
      let t : next_in base (take place h) ≡ multi = (is.each place (omega arith)).1 (from, omega arith) in
      let same : m ≡ multi = next_at m place (g, offset, members, e) ∙ t in (
        (g, offset, members, e ∙ ap (λ k. Some (multis.Gen g k offset members)) same),
        λ q z. let s = (last_place multi q span is z).1 in omega arith,
      )

  pub none_given : (multi : ℕ) (span : Span) → IsWhere (next_in base) h multi span → span.end ≤ span.from → NoGen h multi
  none_given multi span is l q z = let s = last_place multi q span is z in let a = s.0 in let b = s.1 in omega arith

  pub none_last : (multi place : ℕ) (span : Span) → IsWhere (next_in base) h multi span → place + 1 ≡ span.end → ((g : By) (m offset : ℕ) (members : List Member) → slice_get h place ≡ Some (multis.Gen g m offset members) → ⊥) → NoGen h multi
  none_last multi place span is end never q z =
      let s = (last_place multi q span is z).1 in
      let same : q ≡ place = omega arith in
      never z.0 multi z.1 z.2 (ap (slice_get h) (sym same) ∙ z.3)
