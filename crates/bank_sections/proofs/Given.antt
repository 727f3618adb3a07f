-- What holds of an id that was given.
use Rattle.std.proofs.Common.{◌≡◌, inl, inr, ℕ, ◌≤◌, List, [], ◌∷◌, Contains, IfSome, Option, Some, None, refl, sym, ap, subst, ◌∙◌, ⊎_elim, length}
use Rattle.std.specs.List.{cons_option, filter_map}
use Rattle.notes.specs.Lists.{at}
use Rattle.tx_events.specs.declared.event.Event.{Event}
use Rattle.tx_events.specs.declared.event.Event.TheVariants as events
use Rattle.tx_events.specs.declared.record.Counters.{Counters}
use Rattle.tx_events.specs.Events.{given, given_by}
use Rattle.tx_events.specs.History.{IsLegal}
use Rattle.tx_events.specs.Running.{open_ids}
use Rattle.tx_events.proofs.GivenIds.{given_push_cases, legal_front, legal_last, may_give, open_given}
use Rattle.tx_events.proofs.IdOrder.{nth_from, nth_full}
use Rattle.tx_events.proofs.Membership.{Has, by_end, contains_has, has_filter_map}
use Rattle.tx_core.specs.declared.entry.Entry.{Entry}
use Rattle.tx_core.specs.declared.entry.Kind.{Kind}
use Rattle.tx_core.specs.declared.entry.Kind.TheVariants as kinds
use Rattle.tx_core.specs.declared.entry.Start.{Start}
use Rattle.tx_core.specs.EngineInvariant.{EngineInvariant}
use Rattle.tx_core.specs.Entries.{event_in, event_of, history}
use Rattle.tx_core.specs.Locks.{proc_lock, subtrans_lock, subtrans_lock_of, subtrans_page, xact_lock, xact_lock_of, xact_page}
use Rattle.tx_core.specs.PagesBeforeIds.{IsMade, IsTold, NeedsPages, PagesOf, WasMade}
use Rattle.tx_core.specs.ParentsFollow.{IsGivenBelow}
use Rattle.tx_core.proofs.Asking.{if_some, upheld_has}
use Rattle.tx_events.specs.Ids.{IsFullId}

-- an item that is kept
pub filter_map_has : {A B : Type 0} (f : A → Option B) (xs : List A) (x : A) (y : B) → Has xs x → f x ≡ Some y → Has (filter_map f xs) y
filter_map_has {A = A} {B = B} f [] x y k q = absurd k
filter_map_has {A = A} {B = B} f (z ∷ zs) x y k q = ⊎_elim
    (λ (e : z ≡ x). subst (λ o. Has (cons_option o (filter_map f zs)) y) (sym (ap f e ∙ q)) (inl refl))
    (λ r. keep (f z) (filter_map_has f zs x y r q))
    k
  where
    keep : (o : Option B) → Has (filter_map f zs) y → Has (cons_option o (filter_map f zs)) y
    keep None h = h
    keep (Some w) h = inr h

-- each given id is a full one, not before the first
pub given_full : (base : Counters) (h : List Event) → IsLegal base h → IsFullId base.next → (x : ℕ) → Has (given h) x → IsFullId x × (base.next ≤ x)
given_full base h legal full = by_end (λ h. IsLegal base h → (x : ℕ) → Has (given h) x → IsFullId x × (base.next ≤ x)) (λ l x k. absurd k) (λ h e before l x k.
    ⊎_elim (λ o. before (legal_front base h e l) x o)
    (λ g. let q = may_give base h e x (legal_last base h e l) g in
    (subst IsFullId (sym q) (nth_full base.next (length (given h)) full), subst (λ z. base.next ≤ z) (sym q) (nth_from base.next (length (given h)))))
    (given_push_cases h e x k)) h legal

-- both of its pages are made
pub given_made : (start : Start) (lists : List (List Entry)) (id : ℕ) → EngineInvariant start lists → Has (given (history lists)) id → IsMade start lists id
given_made start lists id k there =
    let event = has_filter_map given_by (history lists) id there in
    let entry = has_filter_map event_of (at lists proc_lock) event.0 event.1 in
    let needs = upheld_has (NeedsPages start) lists proc_lock entry.0 k.pages.ids entry.1 in
    (if_some (given_by event.0) (λ x. IsMade start lists x × IsTold start needs.0 x) id (of_event needs.0 entry.0.kind event.0 entry.2 needs.1) event.2).0
  where
    of_event : (before : List Entry) (kind : Kind) (event : Event) → event_in kind ≡ Some event → PagesOf start lists before kind → IfSome (given_by event) (λ x. IsMade start lists x × IsTold start before x)
    of_event before (kinds.Event other) event is p = subst (λ (o : Option Event). IfSome o (λ e. IfSome (given_by e) (λ x. IsMade start lists x × IsTold start before x))) is p
    of_event before _ event is p = absurd cc

-- the page of the parent of an id that was given below another was made
pub below_made : (start : Start) (lists : List (List Entry)) (n bank parent id : ℕ) → EngineInvariant start lists → IsGivenBelow lists n parent id → subtrans_lock_of start id ≡ subtrans_lock bank → WasMade (at lists (subtrans_lock bank)) (subtrans_page start.base.next) (subtrans_page id)
below_made start lists n bank parent id k below here =
    let there = filter_map_has given_by (history lists) (events.Sub below.0 parent id) id (contains_has (history lists) (events.Sub below.0 parent id) below.2) refl in
    let made = (given_made start lists id k there).1 in
    ⊎_elim inl (λ s. inr (s.0, subst (λ z. Contains (at lists z) (record { by = s.0; kind = kinds.Zero (subtrans_page id) })) here s.1)) made

-- and that of the state of an open id
pub open_made : (start : Start) (lists : List (List Entry)) (n bank id : ℕ) → EngineInvariant start lists → Contains (open_ids n (history lists)) id → xact_lock_of start id ≡ xact_lock bank → WasMade (at lists (xact_lock bank)) (xact_page start.base.next) (xact_page id)
open_made start lists n bank id k opened here =
    let made = (given_made start lists id k (open_given n (history lists) id (contains_has (open_ids n (history lists)) id opened))).0 in
    ⊎_elim inl (λ s. inr (s.0, subst (λ z. Contains (at lists z) (record { by = s.0; kind = kinds.Zero (xact_page id) })) here s.1)) made
