-- Which ids a legal history gave, and their parents.
use Rattle.std.proofs.Common.{◌≡◌, ℕ, ◌<◌, ◌≤◌, List, [], ◌∷◌, ◌++◌, length, take, drop, ap, sym, subst, ◌∙◌, ⊎_elim, Some, Contains, append-nil, append_assoc, unwrap_or}
use Rattle.std.proofs.lemmas.List.{take-append-drop}
use Rattle.std.specs.List.{slice_get}
use Rattle.tx_events.specs.declared.event.Event.{Event}
use Rattle.tx_events.specs.declared.record.Counters.{Counters}
use Rattle.tx_events.specs.Events.{given, given_by}
use Rattle.tx_events.specs.Families.{lineage}
use Rattle.tx_events.specs.History.{IsLegal, next_given}
use Rattle.tx_events.specs.Ids.{IsFullId, low_half}
use Rattle.tx_events.proofs.GivenIds.{fresh, given_all, given_below, given_push_cases, given_stays, legal_front, legal_last, legal_take, may_give}
use Rattle.tx_events.proofs.IdOrder.{nth_full}
use Rattle.tx_events.proofs.Lineages.{lineage_push}
use Rattle.tx_events.proofs.Membership.{Has, by_end, contains_has, has_contains}
use Rattle.tx_events.proofs.SnapshotBounds.{given_from}
use Rattle.history_check.specs.Opened.{parent_of}
use Rattle.report_law.specs.Dumps.{parent_or_none}

-- each is a full id
given_full : (base : Counters) (h : List Event) → IsFullId base.next → IsLegal base h → (x : ℕ) → Has (given h) x → IsFullId x
given_full base h full = by_end (λ (h : List Event). IsLegal base h → (x : ℕ) → Has (given h) x → IsFullId x)
    (λ legal x k. absurd k)
    (λ h e before legal x k.
    let front = legal_front base h e legal in
    let may = legal_last base h e legal in
    let new : given_by e ≡ Some x → IsFullId x = λ g. subst IsFullId (sym (may_give base h e x may g)) (nth_full base.next (length (given h)) full) in
    ⊎_elim (λ a. before front x a) new (given_push_cases h e x k))
    h

module _ (base : Counters) (h : List Event) (p : ℕ) (full : IsFullId base.next) (legal : IsLegal base h) where
  pub is_given : (x : ℕ) → Contains (given (take p h)) x → (3 ≤ low_half x) × (base.next ≤ x) × (x < next_given base.next (take p h))
  is_given x k =
      let l = legal_take base h p legal in
      let has = contains_has (given (take p h)) x k in
      (given_full base (take p h) full l x has, given_from base (take p h) l x has, given_below base (take p h) l x has)

  pub given_is : (x : ℕ) → 3 ≤ low_half x → base.next ≤ x → x < next_given base.next (take p h) → Contains (given (take p h)) x
  given_is x f from to = has_contains (given (take p h)) x (given_all base (take p h) (legal_take base h p legal) x f from to)

-- an id's family stays behind the event that gave it
still : (base : Counters) (h es : List Event) (x : ℕ) → IsLegal base (h ++ es) → Has (given h) x → (lineage (h ++ es) x ≡ lineage h x) × Has (given (h ++ es)) x
still base h es x legal k =
    by_end (λ (es : List Event). IsLegal base (h ++ es) → (lineage (h ++ es) x ≡ lineage h x) × Has (given (h ++ es)) x)
    (λ l. (ap (λ (t : List Event). lineage t x) (append-nil h), subst (λ (t : List Event). Has (given t) x) (sym (append-nil h)) k))
    (λ es e before l.
    let split : h ++ (es ++ e ∷ []) ≡ (h ++ es) ++ e ∷ [] = sym (append_assoc h es (e ∷ [])) in
    let m : IsLegal base ((h ++ es) ++ e ∷ []) = subst (IsLegal base) split l in
    let front = legal_front base (h ++ es) e m in
    let may = legal_last base (h ++ es) e m in
    let a = before front in
    let same : lineage ((h ++ es) ++ e ∷ []) x ≡ lineage (h ++ es) x = lineage_push (h ++ es) e x (λ g. fresh base (h ++ es) e x front may g a.1) in
    (ap (λ (t : List Event). lineage t x) split ∙ same ∙ a.0, subst (λ (t : List Event). Has (given t) x) (sym split) (given_stays (h ++ es) e x a.1)))
    es legal

module _ (base : Counters) (h : List Event) (p x : ℕ) (legal : IsLegal base h) (k : Contains (given (take p h)) x) where
  both : (lineage h x ≡ lineage (take p h) x) × Has (given h) x
  both =
      let whole = take-append-drop p h in
      let s = still base (take p h) (drop p h) x (subst (IsLegal base) (sym whole) legal) (contains_has (given (take p h)) x k) in
      (ap (λ (t : List Event). lineage t x) (sym whole) ∙ s.0, subst (λ (t : List Event). Has (given t) x) whole s.1)

  pub given_still : Contains (given h) x
  given_still = has_contains (given h) x both.1

  pub parent_still : unwrap_or (parent_of h x) 0 ≡ parent_or_none (take p h) x
  parent_still = ap (λ (l : List ℕ). unwrap_or (slice_get l 1) 0) both.0
