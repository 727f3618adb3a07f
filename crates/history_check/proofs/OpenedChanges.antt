-- What an event changes of the open ids of its session, and of no other.
use Rattle.std.proofs.Common.{◌≡◌, ◌≢◌, ℕ, ◌<◌, List, [], ◌∷◌, ◌++◌, Option, Some, None, refl, ap, sym, subst, ◌∙◌, inl, inr, ⊎_elim, Bool, true, false, cond, not, ◌==◌, ◌&&◌, get_or, set, Contains, arith, eqb-true, eq-eqb}
use Rattle.std.specs.List.{AllByRecursion, filter}
use Rattle.std.proofs.lemmas.List.{get_or-set_other, get_or-set_same, length-set, map_push}
use Rattle.std.proofs.lemmas.Bool.{cases_Bool, false≢true}
use Rattle.tx_events.specs.declared.event.By.{By}
use Rattle.tx_events.specs.declared.event.Event.{Event}
use Rattle.tx_events.specs.declared.event.Event.TheVariants as events
use Rattle.tx_events.specs.declared.record.Counters.{Counters}
use Rattle.tx_events.specs.Events.{by_of, given, given_by}
use Rattle.tx_events.specs.Families.{is_top, top}
use Rattle.tx_events.specs.History.{IsLegal, MayCome, next_given}
use Rattle.tx_events.specs.IdLists.{has}
use Rattle.tx_events.specs.Running.{open_ids}
use Rattle.tx_events.specs.Savepoints.{is_inside}
use Rattle.tx_events.proofs.Closing.{one_top}
use Rattle.tx_events.proofs.ClosingGrowth.{IsClosing, closing_abort, closing_commit, closing_open_ids, closing_undo}
use Rattle.tx_events.proofs.GivenIds.{given_below, given_new, given_stays, may_give, open_given}
use Rattle.tx_events.proofs.GivingGrowth.{IsGiving, giving_open_ids}
use Rattle.tx_events.proofs.IdListSteps.{has-filter, has_true}
use Rattle.tx_events.proofs.ListSteps.{all_filter, all_push, eqb-refl}
use Rattle.tx_events.proofs.Membership.{Has, all_from, contains_has, has_cases, has_contains}
use Rattle.tx_events.proofs.OpenIds.{open_ids_other}
use Rattle.tx_events.proofs.QuietGrowth.{quiet_open_ids}
use Rattle.proc_table.proofs.EntryLists.{map_filter}
use Rattle.history_check.specs.declared.links.OpenId.{OpenId}
use Rattle.history_check.specs.declared.links.Slot.{Slot}
use Rattle.history_check.specs.declared.opened.Opened.{Opened}
use Rattle.history_check.specs.Links.{link_ids, links_of, open_of, opens}
use Rattle.history_check.specs.Opened.{AreAllOpened, AreClosed, AreOpened, IsNoted, IsOpened, MayAdd, ids_after, opened_after, opened_ids, parent_of}
use Rattle.history_check.proofs.GivenSteps.{giving_below, giving_next}
use Rattle.history_check.proofs.Parents.{parent_push, sub_parent, top_parent}

-- an open one is kept
open_kept : (slots : List Slot) (x : ℕ) → Has (opened_ids (opens slots)) x → Has (link_ids (links_of slots)) x
open_kept [] x k = k
open_kept (s ∷ slots) x k = one s.is_open (λ j. open_kept slots x j) k
  where
    one : (b : Bool) → (Has (opened_ids (opens slots)) x → Has (link_ids (links_of slots)) x) → Has (opened_ids (cond b (open_of s.linked ∷ opens slots) (opens slots))) x → Has (link_ids (links_of (s ∷ slots))) x
    one true f k = ⊎_elim (λ (e : s.linked.id ≡ x). inl e) (λ j. inr (f j)) k
    one false f k = inr (f k)

kept_id : (slots : List Slot) (x : ℕ) → Has (opened_ids (opens slots)) x → Contains (link_ids (links_of slots)) x
kept_id slots x k = has_contains (link_ids (links_of slots)) x (open_kept slots x k)

-- the id that comes next is above all
below : (base : Counters) (h : List Event) (e : Event) (id : ℕ) (kept : Opened) → IsLegal base h → MayCome base h e → given_by e ≡ Some id → IsOpened h (by_of e).session kept → AllByRecursion (λ x. x < id) (link_ids (links_of kept.slots.items))
below base h e id kept legal may gives o =
    all_from (λ x. x < id) (link_ids (links_of kept.slots.items)) (λ x k.
    let g : x < next_given base.next h = given_below base h legal x (contains_has (given h) x (o.among x (has_contains (link_ids (links_of kept.slots.items)) x k))) in
    let n : id ≡ next_given base.next h = may_give base h e id may gives in
    omega arith)

abbrev pub HasIts : List Event → OpenId → Type 0
HasIts h o = o.parent ≡ parent_of h o.id

-- the parents of what is open stay
still_its : (base : Counters) (h : List Event) (e : Event) (xs : List OpenId) → IsLegal base h → MayCome base h e → ((x : ℕ) → Has (opened_ids xs) x → Has (given h) x) → AllByRecursion (HasIts h) xs → AllByRecursion (HasIts (h ++ e ∷ [])) xs
still_its base h e [] legal may g a = tt
still_its base h e (o ∷ xs) legal may g a = (a.0 ∙ sym (parent_push base h e o.id legal may (g o.id (inl refl))), still_its base h e xs legal may (λ x k. g x (inr k)) a.1)

its_after : (base : Counters) (h : List Event) (e : Event) (s : ℕ) (xs : List OpenId) → IsLegal base h → MayCome base h e → AreOpened h s xs → AllByRecursion (HasIts (h ++ e ∷ [])) xs
its_after base h e s xs legal may a = still_its base h e xs legal may (λ x k. open_given s h x (subst (λ t. Has t x) a.ids k)) a.parents

-- nothing of the session's changed
same_ids : (base : Counters) (h : List Event) (e : Event) (s : ℕ) (xs : List OpenId) → IsLegal base h → MayCome base h e → open_ids s (h ++ e ∷ []) ≡ open_ids s h → AreOpened h s xs → AreOpened (h ++ e ∷ []) s xs
same_ids base h e s xs legal may same a = record { ids = a.ids ∙ sym same; parents = its_after base h e s xs legal may a }

pub others_opened : (base : Counters) (h : List Event) (e : Event) (s : ℕ) (xs : List OpenId) → IsLegal base h → MayCome base h e → (by_of e).session ≢ s → AreOpened h s xs → AreOpened (h ++ e ∷ []) s xs
others_opened base h e s xs legal may other a = same_ids base h e s xs legal may (open_ids_other base h e s legal may other) a

-- one id more
one_opened : (base : Counters) (h : List Event) (e : Event) (n : ℕ) (parent : Option ℕ) (xs : List OpenId) → IsLegal base h → MayCome base h e → IsGiving h e n → parent ≡ parent_of (h ++ e ∷ []) n → AreOpened h (by_of e).session xs → AreOpened (h ++ e ∷ []) (by_of e).session (xs ++ record { id = n; parent = parent } ∷ [])
one_opened base h e n parent xs legal may gives is a = record {
  ids = map_push (λ (o : OpenId). o.id) xs (record { id = n; parent = parent }) ∙ ap (λ t. t ++ n ∷ []) a.ids
      ∙ ap (λ b. open_ids (by_of e).session h ++ cond b (n ∷ []) []) (sym (eqb-refl (by_of e).session)) ∙ sym (giving_open_ids (by_of e).session h e n gives);
  parents = all_push (HasIts (h ++ e ∷ [])) xs (record { id = n; parent = parent }) (its_after base h e (by_of e).session xs legal may a) is;
}

-- the ids of a filtered list, where the tests agree on them
left : (p q : ℕ → Bool) (xs : List ℕ) → ((x : ℕ) → Has xs x → p x ≡ q x) → filter p xs ≡ filter q xs
left p q [] f = refl
left p q (x ∷ xs) f = ap (λ b. cond b (x ∷ filter p xs) (filter p xs)) (f x (inl refl)) ∙ ap (λ t. cond (q x) (x ∷ t) t) (left p q xs (λ y k. f y (inr k)))

undo_opened : (base : Counters) (h : List Event) (by : By) (id : ℕ) (closed : List ℕ) (xs : List OpenId) → IsLegal base h → MayCome base h (events.Undo by id) → closed ≡ filter (is_inside h id) (open_ids by.session h) → AreOpened h by.session xs → AreOpened (h ++ events.Undo by id ∷ []) by.session (filter (λ (o : OpenId). not (has closed o.id)) xs)
undo_opened base h by id closed xs legal may is a = record {
  ids = map_filter (λ (o : OpenId). o.id) (λ x. not (has closed x)) xs ∙ ap (filter (λ x. not (has closed x))) a.ids
      ∙ left (λ x. not (has closed x)) (λ x. not (is_inside h id x)) (open_ids by.session h) (λ x k. ap not (ap (λ t. has t x) is ∙ has-filter (is_inside h id) (open_ids by.session h) x ∙ ap (λ b. b && is_inside h id x) (has_true (open_ids by.session h) x k)))
      ∙ sym (closing_open_ids by.session h (events.Undo by id) (λ x. not (is_inside h id x)) (closing_undo h by id));
  parents = all_filter (HasIts (h ++ events.Undo by id ∷ [])) (λ (o : OpenId). not (has closed o.id)) xs (its_after base h (events.Undo by id) by.session xs legal may a);
}

none_left : (p : ℕ → Bool) (xs : List ℕ) → ((x : ℕ) → Has xs x → p x ≡ false) → filter p xs ≡ []
none_left p [] f = refl
none_left p (x ∷ xs) f = ap (λ b. cond b (x ∷ filter p xs) (filter p xs)) (f x (inl refl)) ∙ none_left p xs (λ y k. f y (inr k))

-- an end closes all, since they have one top
end_opened : (base : Counters) (h : List Event) (e : Event) (s t : ℕ) → IsLegal base h → Contains (open_ids s h) t × (is_top h t ≡ true) → IsClosing h e (λ x. not (t == top h x)) → AreOpened (h ++ e ∷ []) s []
end_opened base h e s t legal may closes = record {
  ids = sym (closing_open_ids s h e (λ x. not (t == top h x)) closes ∙ none_left (λ x. not (t == top h x)) (open_ids s h) (λ x k. ap not (eq-eqb t (top h x) (sym (eqb-true (top h t) t may.1) ∙ one_top base h legal s t x (contains_has (open_ids s h) t may.0) k))));
  parents = tt;
}

its_opened : (base : Counters) (h : List Event) (e : Event) (closed : List ℕ) (xs : List OpenId) → IsLegal base h → MayCome base h e → AreClosed e h closed → AreOpened h (by_of e).session xs → AreOpened (h ++ e ∷ []) (by_of e).session (opened_after closed e xs)
its_opened base h (events.Id by id) closed xs legal may c a = one_opened base h (events.Id by id) id None xs legal may (giving_next base h by id legal may) (top_parent base h by id legal may) a
its_opened base h (events.Sub by parent id) closed xs legal may c a = one_opened base h (events.Sub by parent id) id (Some parent) xs legal may (giving_below base h by parent id legal may) (sub_parent base h by parent id legal may) a
its_opened base h (events.Undo by id) closed xs legal may c a = undo_opened base h by id closed xs legal may c a
its_opened base h (events.Commit by t) closed xs legal may c a = end_opened base h (events.Commit by t) by.session t legal may (closing_commit h by t)
its_opened base h (events.Abort by t) closed xs legal may c a = end_opened base h (events.Abort by t) by.session t legal may (closing_abort h by t)
its_opened base h (events.Snap name by) closed xs legal may c a = same_ids base h (events.Snap name by) by.session xs legal may (quiet_open_ids by.session h (events.Snap name by) tt) a
its_opened base h (events.SnapDrop name by) closed xs legal may c a = same_ids base h (events.SnapDrop name by) by.session xs legal may (quiet_open_ids by.session h (events.SnapDrop name by) tt) a
its_opened base h (events.Oldest by oldest) closed xs legal may c a = same_ids base h (events.Oldest by oldest) by.session xs legal may (quiet_open_ids by.session h (events.Oldest by oldest) tt) a
its_opened base h (events.Ask by id) closed xs legal may c a = same_ids base h (events.Ask by id) by.session xs legal may (quiet_open_ids by.session h (events.Ask by id) tt) a

-- ---- what is kept

among_more : (h : List Event) (e : Event) (ids : List ℕ) → ((x : ℕ) → Contains ids x → Contains (given h) x) → (x : ℕ) → Contains ids x → Contains (given (h ++ e ∷ [])) x
among_more h e ids f x c = has_contains (given (h ++ e ∷ [])) x (given_stays h e x (contains_has (given h) x (f x c)))

one_given : (h : List Event) (e : Event) (id : ℕ) (ids : List ℕ) → given_by e ≡ Some id → ((x : ℕ) → Contains ids x → Contains (given h) x) → (x : ℕ) → Contains (ids ++ id ∷ []) x → Contains (given (h ++ e ∷ [])) x
one_given h e id ids gives f x c =
    ⊎_elim
    (λ old. among_more h e ids f x (has_contains ids x old))
    (λ now. ⊎_elim (λ (same : id ≡ x). has_contains (given (h ++ e ∷ [])) x (subst (Has (given (h ++ e ∷ []))) same (given_new h e id gives))) (λ none. absurd none) now)
    (has_cases ids (id ∷ []) x (contains_has (ids ++ id ∷ []) x c))

none_kept : (xs : List ℕ) (x : ℕ) → Contains [] x → Contains xs x
none_kept xs x c = absurd (contains_has [] x c)

all_given : (h : List Event) (e : Event) (ids : List ℕ) → ((x : ℕ) → Contains ids x → Contains (given h) x) → (x : ℕ) → Contains (ids_after e ids) x → Contains (given (h ++ e ∷ [])) x
all_given h (events.Id by id) ids f = one_given h (events.Id by id) id ids refl f
all_given h (events.Sub by parent id) ids f = one_given h (events.Sub by parent id) id ids refl f
all_given h (events.Undo by id) ids f = among_more h (events.Undo by id) ids f
all_given h (events.Commit by t) ids f = none_kept (given (h ++ events.Commit by t ∷ []))
all_given h (events.Abort by t) ids f = none_kept (given (h ++ events.Abort by t ∷ []))
all_given h (events.Snap name by) ids f = among_more h (events.Snap name by) ids f
all_given h (events.SnapDrop name by) ids f = among_more h (events.SnapDrop name by) ids f
all_given h (events.Oldest by oldest) ids f = among_more h (events.Oldest by oldest) ids f
all_given h (events.Ask by id) ids f = among_more h (events.Ask by id) ids f

-- the next id is above all that are kept
pub may_add : (base : Counters) (h : List Event) (e : Event) (kept : Opened) → IsLegal base h → MayCome base h e → IsOpened h (by_of e).session kept → MayAdd e (link_ids (links_of kept.slots.items))
may_add base h (events.Id by id) kept legal may o = below base h (events.Id by id) id kept legal may refl o
may_add base h (events.Sub by parent id) kept legal may o = (
  below base h (events.Sub by parent id) id kept legal may refl o,
  kept_id kept.slots.items parent (subst (λ t. Has t parent) (sym o.opened.ids) (contains_has (open_ids by.session h) parent may.1)),
)
may_add base h (events.Undo by id) kept legal may o = tt
may_add base h (events.Commit by t) kept legal may o = tt
may_add base h (events.Abort by t) kept legal may o = tt
may_add base h (events.Snap name by) kept legal may o = tt
may_add base h (events.SnapDrop name by) kept legal may o = tt
may_add base h (events.Oldest by oldest) kept legal may o = tt
may_add base h (events.Ask by id) kept legal may o = tt

-- what one event leaves
pub kept_opened : (base : Counters) (h : List Event) (e : Event) (closed : List ℕ) (old new : Opened) → IsLegal base h → MayCome base h e → AreClosed e h closed → IsOpened h (by_of e).session old → IsNoted e closed old new → IsOpened (h ++ e ∷ []) (by_of e).session new
kept_opened base h e closed old new legal may c o n = record {
  opened = subst (AreOpened (h ++ e ∷ []) (by_of e).session) (sym n.opened) (its_opened base h e closed (opens old.slots.items) legal may c o.opened);
  kept = n.kept;
  among = subst (λ t. (x : ℕ) → Contains t x → Contains (given (h ++ e ∷ [])) x) (sym n.ids) (all_given h e (link_ids (links_of old.slots.items)) o.among);
}

other_opened : (base : Counters) (h : List Event) (e : Event) (s : ℕ) (kept : Opened) → IsLegal base h → MayCome base h e → (by_of e).session ≢ s → IsOpened h s kept → IsOpened (h ++ e ∷ []) s kept
other_opened base h e s kept legal may other o = record {
  opened = others_opened base h e s (opens kept.slots.items) legal may other o.opened;
  kept = o.kept;
  among = among_more h e (link_ids (links_of kept.slots.items)) o.among;
}

-- ---- all sessions

pub all_opened : (base : Counters) (h : List Event) (e : Event) (n : ℕ) (closed : List ℕ) (all : List Opened) (now : Opened) → IsLegal base h → MayCome base h e → (by_of e).session < n → AreClosed e h closed → AreAllOpened h n all → ((d : Opened) → IsNoted e closed (get_or all (by_of e).session d) now) → AreAllOpened (h ++ e ∷ []) n (set all (by_of e).session now)
all_opened base h e n closed all now legal may l c a is = record {
  size = length-set all (by_of e).session now ∙ a.size;
  each = λ s m d. ⊎_elim
      (λ (own : ((by_of e).session == s) ≡ true).
      let same : (by_of e).session ≡ s = eqb-true (by_of e).session s own in
      let there : get_or (set all (by_of e).session now) s d ≡ now = ap (λ t. get_or (set all (by_of e).session now) t d) (sym same) ∙ get_or-set_same all (by_of e).session now d (subst (λ k. (by_of e).session < k) (sym a.size) l) in
      subst (λ t. IsOpened (h ++ e ∷ []) t (get_or (set all (by_of e).session now) s d)) same
      (subst (IsOpened (h ++ e ∷ []) (by_of e).session) (sym there)
      (kept_opened base h e closed (get_or all (by_of e).session d) now legal may c (a.each (by_of e).session l d) (is d))))
      (λ (other : ((by_of e).session == s) ≡ false).
      let apart : (by_of e).session ≢ s = λ q. false≢true (sym other ∙ ap (λ y. y == s) q ∙ eqb-refl s) in
      let there : get_or (set all (by_of e).session now) s d ≡ get_or all s d = get_or-set_other all (by_of e).session s now d (λ q. apart (sym q)) in
      subst (IsOpened (h ++ e ∷ []) s) (sym there) (other_opened base h e s (get_or all s d) legal may apart (a.each s m d)))
      (cases_Bool ((by_of e).session == s));
}
