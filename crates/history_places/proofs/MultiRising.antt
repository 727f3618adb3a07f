-- The numbers of the places never fall.
use Rattle.std.proofs.Common.{◌≡◌, ℕ, ◌+◌, ◌-◌, ◌<◌, ◌≤◌, ◌==◌, Bool, true, false, cond, List, [], ◌∷◌, ◌++◌, take, drop, sym, subst, arith, append_assoc, append-nil, take-append-drop, ⊎_elim}
use Rattle.std.proofs.lemmas.Bool.{cases_lt}
use Rattle.tx_events.specs.declared.multi.MultiEvent.{MultiEvent}
use Rattle.tx_events.specs.declared.record.Counters.{Counters}
use Rattle.tx_events.specs.Base.{IsBase}
use Rattle.tx_events.specs.Ids.{low_half}
use Rattle.tx_events.specs.Limits.{LimitsRise}
use Rattle.tx_events.specs.Multis.{AreLegalMultis, InBase, MultiMayCome, first_member, free_offset, multi_counters, oldest_offset}
use Rattle.tx_events.proofs.Membership.{by_end}
use Rattle.tx_events.proofs.PlaceLemmas.{each_place_start}
use Rattle.multi_store.specs.Generator.{CountersRise}
use Rattle.place_columns.proofs.ColumnSteps.{parts}
use Rattle.history_places.specs.MultiTold.{first_in, member_stop_in, next_in, oldest_in, stop_in}

abbrev pub NeverLower : Type 0
NeverLower = (base : Counters) (h : List MultiEvent) (e : MultiEvent) → IsBase base → AreLegalMultis base (InBase base) (h ++ e ∷ []) → CountersRise (multi_counters base h) (multi_counters base (h ++ e ∷ []))

module _ (base : Counters) where
  abbrev Legal : List MultiEvent → Type 0
  Legal h = AreLegalMultis base (InBase base) h

  legal_start : (xs ys : List MultiEvent) → Legal (xs ++ ys) → Legal xs
  legal_start xs ys l = each_place_start (MultiMayCome base (InBase base)) xs ys l

  legal_take : (h : List MultiEvent) (q : ℕ) → Legal h → Legal (take q h)
  legal_take h q l = legal_start (take q h) (drop q h) (subst Legal (sym (take-append-drop q h)) l)

  by_steps : (f : List MultiEvent → ℕ) → ((h : List MultiEvent) (e : MultiEvent) → Legal (h ++ e ∷ []) → f h ≤ f (h ++ e ∷ [])) → (h es : List MultiEvent) → Legal (h ++ es) → f h ≤ f (h ++ es)
  by_steps f step h es legal =
      by_end (λ (es : List MultiEvent). Legal (h ++ es) → f h ≤ f (h ++ es))
      (λ l. subst (λ (t : List MultiEvent). f h ≤ f t) (sym (append-nil h)) (omega arith))
      (λ es e before l.
      let split : h ++ (es ++ e ∷ []) ≡ (h ++ es) ++ e ∷ [] = sym (append_assoc h es (e ∷ [])) in
      let m : Legal ((h ++ es) ++ e ∷ []) = subst Legal split l in
      let a = before (legal_start (h ++ es) (e ∷ []) m) in
      let s = step (h ++ es) e m in
      subst (λ (t : List MultiEvent). f h ≤ f t) (sym split) (omega arith))
      es legal

  rises : (f : List MultiEvent → ℕ) → ((h : List MultiEvent) (e : MultiEvent) → Legal (h ++ e ∷ []) → f h ≤ f (h ++ e ∷ [])) → (h : List MultiEvent) → Legal h → (p q : ℕ) → p ≤ q → f (take p h) ≤ f (take q h)
  rises f step h legal p q l =
      let split = parts p q h l in
      subst (λ (t : List MultiEvent). f (take p h) ≤ f t) (sym split) (by_steps f step (take p h) (take (q - p) (drop p h)) (subst Legal split (legal_take h q legal)))

  module _ (never : NeverLower) (b : IsBase base) where
    pub nexts_rise : (h : List MultiEvent) → Legal h → (p q : ℕ) → p ≤ q → next_in base (take p h) ≤ next_in base (take q h)
    nexts_rise h legal = rises (next_in base) (λ h e l. (never base h e b l).multi) h legal

    pub oldests_rise : (h : List MultiEvent) → Legal h → (p q : ℕ) → p ≤ q → oldest_in base (take p h) ≤ oldest_in base (take q h)
    oldests_rise h legal = rises (oldest_in base) (λ h e l. (never base h e b l).oldest_multi) h legal

    first_rises : (a c : ℕ) → a ≤ c → first_member a ≤ first_member c
    first_rises a c l = ⊎_elim (λ (u : a < c). below a c u) (λ (u : c ≤ a). let same : a ≡ c = omega arith in subst (λ n. first_member a ≤ first_member n) same (omega arith)) (cases_lt a c)
      where
        least : (c : ℕ) (b : Bool) → c ≤ cond b (c + 1) c
        least c true = omega arith
        least c false = omega arith

        most : (a : ℕ) (b : Bool) → cond b (a + 1) a ≤ a + 1
        most a true = omega arith
        most a false = omega arith

        below : (a c : ℕ) → a < c → first_member a ≤ first_member c
        below a c u = let x = most a (low_half a == 0) in let y = least c (low_half c == 0) in omega arith

    pub firsts_rise : (h : List MultiEvent) → Legal h → (p q : ℕ) → p ≤ q → first_in base (take p h) ≤ first_in base (take q h)
    firsts_rise h legal = rises (first_in base) (λ h e l. first_rises (free_offset base.offset h) (free_offset base.offset (h ++ e ∷ [])) (never base h e b l).offset) h legal

    module _ (rise : (a b : ℕ) → a ≤ b → LimitsRise a b) where
      pub stops_rise : (h : List MultiEvent) → Legal h → (p q : ℕ) → p ≤ q → stop_in base (take p h) ≤ stop_in base (take q h)
      stops_rise h legal p q l = (rise (oldest_in base (take p h)) (oldest_in base (take q h)) (oldests_rise h legal p q l)).multi_stop

      pub member_stops_rise : (h : List MultiEvent) → Legal h → (p q : ℕ) → p ≤ q → member_stop_in base (take p h) ≤ member_stop_in base (take q h)
      member_stops_rise h legal = rises (member_stop_in base) (λ h e l. (rise (oldest_offset base.oldest_offset h) (oldest_offset base.oldest_offset (h ++ e ∷ [])) (never base h e b l).oldest_offset).members) h legal
