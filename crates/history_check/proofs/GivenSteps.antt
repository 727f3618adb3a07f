-- What is kept of the ids goes along with the history.
use Rattle.std.proofs.Common.{◌≡◌, ℕ, ◌<◌, ◌≤◌, suc, List, [], ◌∷◌, ◌++◌, Option, Some, None, map, refl, ap, sym, subst, ◌∙◌, inl, inr, ⊎_elim, Bool, true, false, cond, nat_lt, ◌||◌, append-nil, take, length, IfSome, arith}
use Rattle.std.specs.List.{AllByRecursion, cons_option}
use Rattle.std.proofs.Math.Bool.{or-false}
use Rattle.std.proofs.lemmas.Bool.{false≢true}
use Rattle.std.proofs.lemmas.Bool.Decides.{nat_tests}
use Rattle.std.proofs.lemmas.List.{take_all, take-append-le, map_push}
use Rattle.tx_events.specs.declared.event.By.{By}
use Rattle.tx_events.specs.declared.event.Event.{Event}
use Rattle.tx_events.specs.declared.event.Event.TheVariants as events
use Rattle.tx_events.specs.declared.record.Counters.{Counters}
use Rattle.tx_events.specs.Events.{by_of, given, given_by, given_to, is_commit_of}
use Rattle.tx_events.specs.History.{IsLegal, MayCome, next_given}
use Rattle.tx_events.specs.IdLists.{has, Ascending}
use Rattle.tx_events.specs.Running.{is_open, open_ids}
use Rattle.tx_events.proofs.Closing.{later_take}
use Rattle.tx_events.proofs.GivenGrowth.{given_push}
use Rattle.tx_events.proofs.GivenIds.{fresh, legal_take}
use Rattle.tx_events.proofs.GivingGrowth.{giving_id, giving_sub, IsGiving}
use Rattle.tx_events.proofs.IdListSteps.{true_has}
use Rattle.tx_events.proofs.ListSteps.{all_push, le_or_over, length_push}
use Rattle.tx_events.proofs.Membership.{Has, contains_has, has_filter}
use Rattle.tx_events.proofs.Soundness.{legal_sound}
use Rattle.tx_events.proofs.Visibility.{never_given, open_hidden}
use Rattle.history_check.specs.declared.given.GivenId.{GivenId}
use Rattle.history_check.specs.GivenIds.{AreKept, IsKept, given_after, given_ids, is_committed, was_before, with_place}
use Rattle.history_check.proofs.Commits.{committed_now, committed_still}

-- at places up to h nothing changes, so that the place behind the new event decides
times_push : (h : List Event) (e : Event) (x : ℕ) (o n : Option ℕ) → ((p : ℕ) → p ≤ length h → was_before o p ≡ is_committed (take p h) x) → ((p : ℕ) → p ≤ length h → was_before n p ≡ was_before o p) → was_before n (suc (length h)) ≡ is_committed (h ++ e ∷ []) x → (p : ℕ) → p ≤ length (h ++ e ∷ []) → was_before n p ≡ is_committed (take p (h ++ e ∷ [])) x
times_push h e x o n old same now p l =
    let size : length (h ++ e ∷ []) ≡ suc (length h) = length_push h e in
    ⊎_elim
    (λ (u : p ≤ length h). same p u ∙ old p u ∙ ap (λ g. is_committed g x) (sym (take-append-le p h (e ∷ []) u)))
    (λ (u : length h < p).
    let at : p ≡ suc (length h) = omega arith in
    ap (was_before n) at ∙ now ∙ ap (λ g. is_committed g x) (sym (take_all p (h ++ e ∷ []) (omega arith))))
    (le_or_over p (length h))

late : (o : Option ℕ) (n : ℕ) → IfSome o (λ q. q < n) → was_before o (suc n) ≡ was_before o n
late None n w = refl
late (Some q) n w = grind (arith, nat_tests)

later_within : (o : Option ℕ) (n m : ℕ) → n ≤ m → IfSome o (λ q. q < n) → IfSome o (λ q. q < m)
later_within None n m l w = tt
later_within (Some q) n m l w = omega arith

at_end : (h : List Event) (x : ℕ) → is_committed (take (length h) h) x ≡ is_committed h x
at_end h x = ap (λ g. is_committed g x) (take_all (length h) h (omega arith))

-- an event that is no commit leaves what is kept of an id
kept_still : (base : Counters) (h : List Event) (e : Event) (g : GivenId) → IsLegal base h → MayCome base h e → ((t : ℕ) → is_commit_of t e ≡ false) → Has (given h) g.id → IsKept h g → IsKept (h ++ e ∷ []) g
kept_still base h e g legal may none k i =
    let size : length (h ++ e ∷ []) ≡ suc (length h) = length_push h e in
    record {
      within = later_within g.committed (length h) (length (h ++ e ∷ [])) (omega arith) i.within;
      times = times_push h e g.id g.committed g.committed i.times (λ p l. refl)
          (late g.committed (length h) i.within ∙ i.times (length h) (omega arith) ∙ at_end h g.id ∙ sym (committed_still base h e g.id legal may k none));
    }

-- an id that is open hasn't committed at any place
open_before : (h : List Event) (o : Option ℕ) (x : ℕ) → IfSome o (λ q. q < length h) → was_before o (length h) ≡ is_committed (take (length h) h) x → is_open h x ≡ true → o ≡ None
open_before h None x w e i = refl
open_before h (Some q) x w e i =
    let before : nat_lt q (length h) ≡ true = grind (arith, nat_tests) in
    absurd (false≢true (sym (open_hidden h x i) ∙ sym (at_end h x) ∙ sym e ∙ before))

-- a commit gives its place to the ids that its session has open
kept_commit : (base : Counters) (h : List Event) (by : By) (t : ℕ) (g : GivenId) (b : Bool) → has (open_ids by.session h) g.id ≡ b → IsLegal base h → MayCome base h (events.Commit by t) → Has (given h) g.id → IsKept h g → IsKept (h ++ events.Commit by t ∷ []) (cond b (record g { committed = Some (length h) }) g)
kept_commit base h by t g true e legal may k i =
    let size : length (h ++ events.Commit by t ∷ []) ≡ suc (length h) = length_push h (events.Commit by t) in
    let opened : is_open h g.id ≡ true = (has_filter (is_open h) (given_to by.session h) g.id (true_has (open_ids by.session h) g.id e)).1 in
    let none : g.committed ≡ None = open_before h g.committed g.id i.within (i.times (length h) (omega arith)) opened in
    let now : is_committed (h ++ events.Commit by t ∷ []) g.id ≡ true = committed_now base h by t g.id legal may k ∙ ap (λ b. is_committed h g.id || b) e ∙ or_true (is_committed h g.id) in
    record {
      within = omega arith;
      times = times_push h (events.Commit by t) g.id g.committed (Some (length h)) i.times
          (λ p l. not_yet (length h) p l ∙ sym (ap (λ o. was_before o p) none))
          (just_now (length h) ∙ sym now);
    }
  where
    or_true : (a : Bool) → (a || true) ≡ true
    or_true true = refl
    or_true false = refl

    not_yet : (n p : ℕ) → p ≤ n → nat_lt n p ≡ false
    not_yet n p l = grind (arith, nat_tests)

    just_now : (n : ℕ) → nat_lt n (suc n) ≡ true
    just_now n = grind (arith, nat_tests)
kept_commit base h by t g false e legal may k i =
    let size : length (h ++ events.Commit by t ∷ []) ≡ suc (length h) = length_push h (events.Commit by t) in
    record {
      within = later_within g.committed (length h) (length (h ++ events.Commit by t ∷ [])) (omega arith) i.within;
      times = times_push h (events.Commit by t) g.id g.committed g.committed i.times (λ p l. refl)
          (late g.committed (length h) i.within ∙ i.times (length h) (omega arith) ∙ at_end h g.id
          ∙ sym (committed_now base h by t g.id legal may k ∙ ap (λ b. is_committed h g.id || b) e ∙ or-false (is_committed h g.id)));
    }

-- ---- the whole list

each_step : (P Q : GivenId → Type 0) (f : GivenId → GivenId) (items : List GivenId) (ids : List ℕ) → ((g : GivenId) → Has ids g.id → P g → Q (f g)) → ((x : ℕ) → Has (given_ids items) x → Has ids x) → AllByRecursion P items → AllByRecursion Q (map f items)
each_step P Q f [] ids s h a = tt
each_step P Q f (g ∷ items) ids s h a = (s g (h g.id (inl refl)) a.0, each_step P Q f items ids s (λ x k. h x (inr k)) a.1)

same_items : (items : List GivenId) → map (λ (g : GivenId). g) items ≡ items
same_items [] = refl
same_items (g ∷ items) = ap (λ t. g ∷ t) (same_items items)

pub ids_placed : (ids : List ℕ) (p : ℕ) (items : List GivenId) → given_ids (map (with_place ids p) items) ≡ given_ids items
ids_placed ids p [] = refl
ids_placed ids p (g ∷ items) = ap (λ t. t ∷ given_ids (map (with_place ids p) items)) (one (has ids g.id)) ∙ ap (λ t. g.id ∷ t) (ids_placed ids p items)
  where
    one : (b : Bool) → (cond {A = GivenId} b (record g { committed = Some p }) g).id ≡ g.id
    one true = refl
    one false = refl

among : (h : List Event) (items : List GivenId) → given_ids items ≡ given h → (x : ℕ) → Has (given_ids items) x → Has (given h) x
among h items e x k = subst (λ t. Has t x) e k

pub kept_start : AreKept [] []
kept_start = record { ids = refl; each = tt }

after_quiet : (base : Counters) (h : List Event) (e : Event) (items : List GivenId) → IsLegal base h → MayCome base h e → given_by e ≡ None → ((t : ℕ) → is_commit_of t e ≡ false) → AreKept h items → AreKept (h ++ e ∷ []) items
after_quiet base h e items legal may gives none a = record {
  ids = a.ids ∙ sym (given_push h e ∙ ap (λ o. given h ++ cons_option o []) gives ∙ append-nil (given h));
  each = subst (AllByRecursion (IsKept (h ++ e ∷ []))) (same_items items) (each_step (IsKept h) (IsKept (h ++ e ∷ [])) (λ g. g) items (given h) (λ g k i. kept_still base h e g legal may none k i) (among h items a.ids) a.each);
}

after_commit : (base : Counters) (h : List Event) (by : By) (t : ℕ) (items : List GivenId) → IsLegal base h → MayCome base h (events.Commit by t) → AreKept h items → AreKept (h ++ events.Commit by t ∷ []) (map (with_place (open_ids by.session h) (length h)) items)
after_commit base h by t items legal may a = record {
  ids = ids_placed (open_ids by.session h) (length h) items ∙ a.ids ∙ sym (given_push h (events.Commit by t) ∙ append-nil (given h));
  each = each_step (IsKept h) (IsKept (h ++ events.Commit by t ∷ [])) (with_place (open_ids by.session h) (length h)) items (given h) (λ g k i. kept_commit base h by t g (has (open_ids by.session h) g.id) refl legal may k i) (among h items a.ids) a.each;
}

-- ---- an id is given

new_kept : (base : Counters) (h : List Event) (e : Event) (x : ℕ) → IsLegal base h → (Has (given h) x → ⊥) → is_committed (h ++ e ∷ []) x ≡ false → IsKept (h ++ e ∷ []) (record { id = x; committed = None })
new_kept base h e x legal fresh now = record {
  within = tt;
  times = times_push h e x None None
      (λ p l. sym (never_given base (take p h) x (legal_take base h p legal) (λ k. fresh (later_take base h p x legal k).given)))
      (λ p l. refl)
      (sym now);
}

after_given : (base : Counters) (h : List Event) (e : Event) (x : ℕ) (items : List GivenId) → IsLegal base h → MayCome base h e → given_by e ≡ Some x → ((t : ℕ) → is_commit_of t e ≡ false) → is_open (h ++ e ∷ []) x ≡ true → AreKept h items → AreKept (h ++ e ∷ []) (items ++ record { id = x; committed = None } ∷ [])
after_given base h e x items legal may gives none opened a = record {
  ids = map_push (λ (g : GivenId). g.id) items (record { id = x; committed = None }) ∙ ap (λ t. t ++ x ∷ []) a.ids ∙ sym (given_push h e ∙ ap (λ o. given h ++ cons_option o []) gives);
  each = all_push (IsKept (h ++ e ∷ [])) items (record { id = x; committed = None })
      (subst (AllByRecursion (IsKept (h ++ e ∷ []))) (same_items items) (each_step (IsKept h) (IsKept (h ++ e ∷ [])) (λ g. g) items (given h) (λ g k i. kept_still base h e g legal may none k i) (among h items a.ids) a.each))
      (new_kept base h e x legal (λ k. fresh base h e x legal may gives k) (open_hidden (h ++ e ∷ []) x opened));
}

-- the next id is given to a session, or below an open id of it
pub giving_next : (base : Counters) (h : List Event) (by : By) (id : ℕ) → IsLegal base h → MayCome base h (events.Id by id) → IsGiving h (events.Id by id) id
giving_next base h by id legal may = rw may.0.next (giving_id h by (next_given base.next h) (legal_sound base h legal).below)

pub giving_below : (base : Counters) (h : List Event) (by : By) (parent id : ℕ) → IsLegal base h → MayCome base h (events.Sub by parent id) → IsGiving h (events.Sub by parent id) id
giving_below base h by parent id legal may =
    rw may.0.next (giving_sub h by parent (next_given base.next h) (legal_sound base h legal).below (has_filter (is_open h) (given_to by.session h) parent (contains_has (open_ids by.session h) parent may.1)).1)

pub kept_after : (base : Counters) (h : List Event) (e : Event) (items : List GivenId) → IsLegal base h → MayCome base h e → AreKept h items → AreKept (h ++ e ∷ []) (given_after (open_ids (by_of e).session h) (length h) e items)
kept_after base h (events.Id by id) items legal may a = after_given base h (events.Id by id) id items legal may refl (λ t. refl) (giving_next base h by id legal may).opens a
kept_after base h (events.Sub by parent id) items legal may a = after_given base h (events.Sub by parent id) id items legal may refl (λ t. refl) (giving_below base h by parent id legal may).opens a
kept_after base h (events.Commit by t) items legal may a = after_commit base h by t items legal may a
kept_after base h (events.Undo by id) items legal may a = after_quiet base h (events.Undo by id) items legal may refl (λ t. refl) a
kept_after base h (events.Abort by t) items legal may a = after_quiet base h (events.Abort by t) items legal may refl (λ t. refl) a
kept_after base h (events.Snap name by) items legal may a = after_quiet base h (events.Snap name by) items legal may refl (λ t. refl) a
kept_after base h (events.SnapDrop name by) items legal may a = after_quiet base h (events.SnapDrop name by) items legal may refl (λ t. refl) a
kept_after base h (events.Oldest by oldest) items legal may a = after_quiet base h (events.Oldest by oldest) items legal may refl (λ t. refl) a
kept_after base h (events.Ask by id) items legal may a = after_quiet base h (events.Ask by id) items legal may refl (λ t. refl) a

-- the kept ids ascend
pub kept_ascend : (base : Counters) (h : List Event) (items : List GivenId) → IsLegal base h → AreKept h items → Ascending (given_ids items)
kept_ascend base h items legal a = subst Ascending (sym a.ids) (legal_sound base h legal).ascending
