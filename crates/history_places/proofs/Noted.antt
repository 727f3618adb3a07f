-- What is noted of an id, with one event more.
use Rattle.std.proofs.Common.{◌≡◌, ℕ, suc, ◌<◌, ◌≤◌, List, [], ◌∷◌, ◌++◌, length, take, drop, refl, ap, sym, ◌∙◌, arith, ⊎_elim, Bool, true, false, ◌&&◌, ◌||◌, cond, nat_lt, Option, Some, None, IfSome}
use Rattle.std.specs.List.{list_any}
use Rattle.std.proofs.lemmas.Bool.{and_parts, false_from_ne_true}
use Rattle.std.proofs.lemmas.Bool.Decides.{nat_tests}
use Rattle.std.proofs.lemmas.List.{take_all, take-append-drop, take-append-le}
use Rattle.std.proofs.lemmas.List.Folds.{list_any-append}
use Rattle.tx_events.specs.declared.event.By.{By}
use Rattle.tx_events.specs.declared.event.Event.{Event}
use Rattle.tx_events.specs.declared.event.Event.TheVariants as events
use Rattle.tx_events.specs.declared.record.Counters.{Counters}
use Rattle.tx_events.specs.Events.{given, given_by, is_end_of, is_undo_of}
use Rattle.tx_events.specs.History.{IsLegal, MayCome}
use Rattle.tx_events.specs.IdLists.{has}
use Rattle.tx_events.proofs.Closing.{later_take}
use Rattle.tx_events.proofs.GivenIds.{fresh, given_new, given_stays, legal_front, legal_last}
use Rattle.tx_events.proofs.IdListSteps.{has_true, true_has}
use Rattle.tx_events.proofs.ListSteps.{le_or_over, length_push, list_any-push}
use Rattle.tx_events.proofs.Membership.{Has, list_any_agree_on}
use Rattle.history_check.specs.GivenIds.{was_before}
use Rattle.history_check.specs.Opened.{parent_of}
use Rattle.history_check.proofs.GivenSteps.{giving_below, giving_next}
use Rattle.history_check.proofs.Parents.{parent_push, sub_parent, top_parent}
use Rattle.history_places.specs.declared.mark.IdMark.{IdMark}
use Rattle.history_places.specs.IdMarks.{IsNoted, is_close, is_unclosed}
use Rattle.history_places.proofs.Families.{sub_not_undone, top_not_ended}

-- what is so at each place up to the event, and behind it
push_times : (F : List Event → Bool) (h : List Event) (e : Event) (f g : ℕ → Bool) → ((p : ℕ) → p ≤ length h → F (take p h) ≡ f p) → ((p : ℕ) → p ≤ length h → f p ≡ g p) → F (h ++ e ∷ []) ≡ g (suc (length h)) → (p : ℕ) → p ≤ length (h ++ e ∷ []) → F (take p (h ++ e ∷ [])) ≡ g p
push_times F h e f g old same now p l =
    let size : length (h ++ e ∷ []) ≡ suc (length h) = length_push h e in
    ⊎_elim
    (λ (u : p ≤ length h). ap F (take-append-le p h (e ∷ []) u) ∙ old p u ∙ same p u)
    (λ (u : length h < p).
    let at : p ≡ suc (length h) = omega arith in
    ap F (take_all p (h ++ e ∷ []) (omega arith)) ∙ now ∙ ap g (sym at))
    (le_or_over p (length h))

not_yet : (n p : ℕ) → p ≤ n → nat_lt n p ≡ false
not_yet n p l = grind (arith, nat_tests)

over : (q n : ℕ) → q ≤ n → nat_lt q (suc n) ≡ true
over q n l = grind (arith, nat_tests)

or_true : (a : Bool) → (a || true) ≡ true
or_true true = refl
or_true false = refl

or_first : (a b : Bool) → (a || b) ≡ false → a ≡ false
or_first true b e = absurd cc
or_first false b e = refl

unclosed : (o : Option ℕ) → is_unclosed o ≡ true → o ≡ None
unclosed None e = refl
unclosed (Some q) e = absurd cc

-- an event that leaves the mark
still : (o : Option ℕ) (a b : Bool) (n : ℕ) → IfSome o (λ q. q < n) → a ≡ was_before o n → (is_unclosed o && b) ≡ false → (a || b) ≡ was_before o (suc n)
still None a b n w e f = ap (λ z. z || b) e ∙ f
still (Some q) a b n w e f =
    let t : nat_lt q n ≡ true = grind (arith, nat_tests) in
    ap (λ z. z || b) (e ∙ t) ∙ sym (over q n (omega arith))

later_within : (o : Option ℕ) (n m : ℕ) → n ≤ m → IfSome o (λ q. q < n) → IfSome o (λ q. q < m)
later_within None n m l w = tt
later_within (Some q) n m l w = omega arith

-- an id that was given
given_still : (h : List Event) (e : Event) (m : IdMark) → Has (given h) m.id → IsNoted h m → (p : ℕ) → p ≤ length (h ++ e ∷ []) → has (given (take p (h ++ e ∷ []))) m.id ≡ nat_lt m.given p
given_still h e m k i =
    let w = i.within in
    push_times (λ (g : List Event). has (given g) m.id) h e (λ p. nat_lt m.given p) (λ p. nat_lt m.given p) i.given (λ p l. refl)
    (has_true (given (h ++ e ∷ [])) m.id (given_stays h e m.id k) ∙ sym (over m.given (length h) (omega arith)))

pub noted_still : (base : Counters) (h : List Event) (e : Event) (m : IdMark) (b : Bool) → (is_unclosed m.closed && is_close m.parent m.id e) ≡ b → IsLegal base h → MayCome base h e → Has (given h) m.id → IsNoted h m → IsNoted (h ++ e ∷ []) (cond b (record m { closed = Some (length h) }) m)
noted_still base h e m true f legal may k i =
    let size : length (h ++ e ∷ []) ≡ suc (length h) = length_push h e in
    let two = and_parts (is_unclosed m.closed) (is_close m.parent m.id e) f in
    let none : m.closed ≡ None = unclosed m.closed two.0 in
    let w = i.within in
    record {
      parent = i.parent ∙ sym (parent_push base h e m.id legal may k);
      within = omega arith;
      given = given_still h e m k i;
      closed_within = omega arith;
      closes = push_times (λ (g : List Event). list_any (is_close m.parent m.id) g) h e (λ p. was_before m.closed p) (λ p. nat_lt (length h) p) i.closes
          (λ p l. ap (λ o. was_before o p) none ∙ sym (not_yet (length h) p l))
          (list_any-push (is_close m.parent m.id) h e ∙ ap (λ z. list_any (is_close m.parent m.id) h || z) two.1 ∙ or_true (list_any (is_close m.parent m.id) h) ∙ sym (over (length h) (length h) (omega arith)));
    }
noted_still base h e m false f legal may k i =
    let size : length (h ++ e ∷ []) ≡ suc (length h) = length_push h e in
    let w = i.within in
    record {
      parent = i.parent ∙ sym (parent_push base h e m.id legal may k);
      within = omega arith;
      given = given_still h e m k i;
      closed_within = later_within m.closed (length h) (length (h ++ e ∷ [])) (omega arith) i.closed_within;
      closes = push_times (λ (g : List Event). list_any (is_close m.parent m.id) g) h e (λ p. was_before m.closed p) (λ p. was_before m.closed p) i.closes (λ p l. refl)
          (list_any-push (is_close m.parent m.id) h e
          ∙ still m.closed (list_any (is_close m.parent m.id) h) (is_close m.parent m.id e) (length h) i.closed_within
          (ap (λ (g : List Event). list_any (is_close m.parent m.id) g) (sym (take_all (length h) h (omega arith))) ∙ i.closes (length h) (omega arith)) f);
    }

-- ---- an id is given

front_none : (c : Event → Bool) (xs : List Event) (p : ℕ) → list_any c xs ≡ false → list_any c (take p xs) ≡ false
front_none c xs p f = or_first (list_any c (take p xs)) (list_any c (drop p xs)) (sym (list_any-append c (take p xs) (drop p xs)) ∙ ap (list_any c) (take-append-drop p xs) ∙ f)

noted_new : (base : Counters) (h : List Event) (e : Event) (x : ℕ) (o : Option ℕ) → IsLegal base (h ++ e ∷ []) → given_by e ≡ Some x → o ≡ parent_of (h ++ e ∷ []) x → list_any (is_close o x) (h ++ e ∷ []) ≡ false → IsNoted (h ++ e ∷ []) (record { id = x; parent = o; given = length h; closed = None })
noted_new base h e x o legal gives parent none =
    let size : length (h ++ e ∷ []) ≡ suc (length h) = length_push h e in
    let front = legal_front base h e legal in
    let unseen : (p : ℕ) → p ≤ length h → has (given (take p h)) x ≡ false = λ p l. false_from_ne_true (has (given (take p h)) x) (λ t. absurd (fresh base h e x front (legal_last base h e legal) gives (later_take base h p x front (true_has (given (take p h)) x t)).given)) in
    record {
      parent = parent;
      within = omega arith;
      given = push_times (λ (g : List Event). has (given g) x) h e (λ p. false) (λ p. nat_lt (length h) p) unseen (λ p l. sym (not_yet (length h) p l))
          (has_true (given (h ++ e ∷ [])) x (given_new h e x gives) ∙ sym (over (length h) (length h) (omega arith)));
      closed_within = tt;
      closes = λ p l. front_none (is_close o x) (h ++ e ∷ []) p none;
    }

pub noted_top : (base : Counters) (h : List Event) (by : By) (x : ℕ) → IsLegal base (h ++ events.Id by x ∷ []) → IsNoted (h ++ events.Id by x ∷ []) (record { id = x; parent = None; given = length h; closed = None })
noted_top base h by x legal =
    let front = legal_front base h (events.Id by x) legal in
    let may = legal_last base h (events.Id by x) legal in
    let none = top_parent base h by x front may in
    noted_new base h (events.Id by x) x None legal refl none
    (list_any_agree_on (is_close None x) (is_end_of x) (h ++ events.Id by x ∷ []) (λ y k. refl)
    ∙ top_not_ended base (h ++ events.Id by x ∷ []) x legal (given_new h (events.Id by x) x refl) (sym none) (giving_next base h by x front may).opens)

pub noted_sub : (base : Counters) (h : List Event) (by : By) (under x : ℕ) → IsLegal base (h ++ events.Sub by under x ∷ []) → IsNoted (h ++ events.Sub by under x ∷ []) (record { id = x; parent = Some under; given = length h; closed = None })
noted_sub base h by under x legal =
    let front = legal_front base h (events.Sub by under x) legal in
    let may = legal_last base h (events.Sub by under x) legal in
    let some = sub_parent base h by under x front may in
    noted_new base h (events.Sub by under x) x (Some under) legal refl some
    (list_any_agree_on (is_close (Some under) x) (is_undo_of x) (h ++ events.Sub by under x ∷ []) (λ y k. refl)
    ∙ sub_not_undone base (h ++ events.Sub by under x ∷ []) x under legal (given_new h (events.Sub by under x) x refl) (sym some) (giving_below base h by under x front may).opens)
