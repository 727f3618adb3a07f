-- Where a multixact was given.
use Rattle.std.proofs.Common.{◌≡◌, ◌↔◌, ℕ, zero, suc, ◌+◌, ◌-◌, ◌<◌, ◌≤◌, List, [], ◌∷◌, ◌++◌, Some, length, get_or, take, add-one, ap, sym, subst, ◌∙◌, ⊎_elim, arith, Contains, Bool, IsTrue}
use Rattle.std.proofs.lemmas.Bool.{cases_lt}
use Rattle.std.proofs.lemmas.Option.{slice_get-get_or}
use Rattle.std.specs.List.{slice_get}
use Rattle.tx_events.specs.Ids.{next_multi}
use Rattle.tx_events.specs.declared.event.By.{By}
use Rattle.tx_events.specs.declared.multi.Member.{Member}
use Rattle.tx_events.specs.declared.multi.MultiEvent.{MultiEvent}
use Rattle.tx_events.specs.declared.multi.MultiEvent.TheVariants as multis
use Rattle.tx_events.specs.declared.record.Counters.{Counters}
use Rattle.tx_events.specs.Multis.{AreLegalMultis, BaseOffset, next_made}
use Rattle.multi_store.proofs.MadeSteps.{next_gen}
use Rattle.multi_store.proofs.Numbers.{next_above}
use Rattle.place_columns.specs.declared.span.Span.{Span}
use Rattle.place_columns.specs.Columns.{IsWhere}
use Rattle.history_places.specs.MultiTold.{next_in}

further : (h : List MultiEvent) (k : ℕ) (e : MultiEvent) → slice_get h k ≡ Some e → take (k + 1) h ≡ take k h ++ e ∷ []
further h k e f = ap (λ n. take n h) (add-one k) ∙ one_more h k f
  where
    one_more : (xs : List MultiEvent) (n : ℕ) → slice_get xs n ≡ Some e → take (suc n) xs ≡ take n xs ++ e ∷ []
    one_more [] n g = absurd cc
    one_more (x ∷ xs) zero g = let same : x ≡ e = cc in ap (λ (y : MultiEvent). y ∷ []) same
    one_more (x ∷ xs) (suc n) g = ap (λ (t : List MultiEvent). x ∷ t) (one_more xs n g)

below : (h : List MultiEvent) (k : ℕ) (e : MultiEvent) → slice_get h k ≡ Some e → k < length h
below [] k e f = absurd cc
below (x ∷ h) zero e f = omega arith
below (x ∷ h) (suc k) e f = let l = below h k e f in omega arith

-- the last place at which the next multixact is that one stands right before its event
gen_at : (base : Counters) (known : BaseOffset) (h : List MultiEvent) (by : By) (multi offset : ℕ) (members : List Member) (k : ℕ) (span : Span) → AreLegalMultis base known h → slice_get h k ≡ Some (multis.Gen by multi offset members) → IsWhere (next_in base) h multi span → span.end ≡ k + 1
gen_at base known h by multi offset members k span legal s is =
    let l : k < length h = below h k (multis.Gen by multi offset members) s in
    let may = legal k (multis.Gen by multi offset members) s in
    let here = (is.each k (omega arith)).0 (sym may.next) in
    let a = here.0 in let b = here.1 in
    ⊎_elim
    (λ (m : k + 1 < span.end).
    let more : next_made base.multi (take (k + 1) h) ≡ next_multi (next_made base.multi (take k h)) = ap (next_made base.multi) (further h k (multis.Gen by multi offset members) s) ∙ next_gen base.multi (take k h) by multi offset members in
    let still : next_made base.multi (take (k + 1) h) ≡ multi = (is.each (k + 1) (omega arith)).1 (omega arith, m) in
    let up : multi < next_multi multi = next_above multi in
    let same : next_multi multi ≡ multi = ap next_multi may.next ∙ sym more ∙ still in
    absurd (omega arith))
    (λ (m : span.end ≤ k + 1). omega arith)
    (cases_lt (k + 1) span.end)

at_of : (h : List MultiEvent) (e : MultiEvent) → Contains h e → (k : ℕ) × (slice_get h k ≡ Some e)
at_of h e c = (c.0, slice_get-get_or h c.0 e c.1 ∙ ap Some c.2)

contains_at : (h : List MultiEvent) (k : ℕ) (e : MultiEvent) → k < length h → e ≡ get_or h k e → Contains h e
contains_at h k e l is = (k, l, sym is)

module _ (base : Counters) (known : BaseOffset) (h : List MultiEvent) (multi offset : ℕ) (members : List Member) (span : Span) (legal : AreLegalMultis base known h) (is : IsWhere (next_in base) h multi span) where
  -- the event there answers
  pub given_iff : (e : MultiEvent) (b : Bool) → 0 < span.end → span.end ≤ length h → e ≡ get_or h (span.end - 1) e → IsTrue b ↔ ((by : By) × (e ≡ multis.Gen by multi offset members)) → IsTrue b ↔ ((by : By) × Contains h (multis.Gen by multi offset members))
  given_iff e b some within e_is iff = (
    λ t. let g = iff.0 t in (g.0, subst (Contains h) g.1 (contains_at h (span.end - 1) e (omega arith) e_is)),
    λ c.
        let at = at_of h (multis.Gen c.0 multi offset members) c.1 in
        let end : span.end ≡ at.0 + 1 = gen_at base known h c.0 multi offset members at.0 span legal at.1 is in
        let place : span.end - 1 ≡ at.0 = omega arith in
        let both : Some (get_or h (span.end - 1) e) ≡ Some (multis.Gen c.0 multi offset members) = sym (slice_get-get_or h (span.end - 1) e (omega arith)) ∙ ap (slice_get h) place ∙ at.1 in
        let there : get_or h (span.end - 1) e ≡ multis.Gen c.0 multi offset members = cc in
        iff.1 (c.0, e_is ∙ there),
  )

  pub never_given : (span.end ≡ 0 → ⊥) → length h < span.end → (by : By) → Contains h (multis.Gen by multi offset members) → ⊥
  never_given some past by c =
      let at = at_of h (multis.Gen by multi offset members) c in
      let end : span.end ≡ at.0 + 1 = gen_at base known h by multi offset members at.0 span legal at.1 is in
      let l = below h at.0 (multis.Gen by multi offset members) at.1 in
      omega arith

  pub none_given : span.end ≡ 0 → (by : By) → Contains h (multis.Gen by multi offset members) → ⊥
  none_given none by c =
      let at = at_of h (multis.Gen by multi offset members) c in
      let end : span.end ≡ at.0 + 1 = gen_at base known h by multi offset members at.0 span legal at.1 is in
      omega arith
