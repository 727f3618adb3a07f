-- Where an id is closed, by what is noted of it and of its parents.
use Rattle.std.proofs.Common.{◌≡◌, ℕ, suc, zero, ◌+◌, ◌<◌, ◌≤◌, List, [], ◌∷◌, ◌++◌, length, get_or, set, take, drop, min, refl, ap, sym, subst, ◌∙◌, arith, inl, inr, ⊎_elim, Bool, true, false, not, ◌&&◌, ◌==◌, nat_lt, cond, Option, Some, None, eq-eqb}
use Rattle.std.specs.Prelude.{IfSome}
use Rattle.std.specs.List.{AllByRecursion, find, list_any, slice_get}
use Rattle.std.proofs.Math.Nat.{min-le_left}
use Rattle.std.proofs.lemmas.Bool.{eqb-true, false_from_ne_true}
use Rattle.std.proofs.lemmas.Bool.Decides.{nat_tests}
use Rattle.std.proofs.Math.Seq.{drop-cons}
use Rattle.std.proofs.lemmas.List.{drop-set-lt, length-set, map-append, take-append-drop, take_all, take_more, take_more_set}
use Rattle.std.proofs.lemmas.List.Elements.{filter_map-append}
use Rattle.tx_events.specs.declared.event.Event.{Event}
use Rattle.tx_events.specs.declared.record.Counters.{Counters}
use Rattle.tx_events.specs.Events.{given, given_by, is_end_of, is_undo_of}
use Rattle.tx_events.specs.History.{IsLegal}
use Rattle.tx_events.specs.IdLists.{Ascending, has}
use Rattle.tx_events.specs.Running.{is_open, running}
use Rattle.tx_events.proofs.Closing.{later_take}
use Rattle.tx_events.proofs.GivenIds.{legal_take}
use Rattle.tx_events.proofs.IdListSteps.{has-filter, has_true, true_has}
use Rattle.tx_events.proofs.ListSteps.{all_push, not_both}
use Rattle.tx_events.proofs.Membership.{Has, all_at, has_left, list_any_agree_on}
use Rattle.tx_events.proofs.Soundness.{legal_sound}
use Rattle.history_check.specs.GivenIds.{was_before}
use Rattle.history_check.specs.Opened.{parent_of}
use Rattle.history_check.proofs.Parents.{parent_below}
use Rattle.history_places.specs.declared.mark.IdMark.{IdMark}
use Rattle.history_places.specs.IdMarks.{AreMarks, AreNoted, IsMark, IsMissing, IsNoted, IsPlaceOf, closed_above, closed_in, earlier, is_close, mark_ids, runs_at}
use Rattle.history_places.proofs.Families.{has_none, has_parent, sub_open, top_open}

guarded : (a b c d : Bool) → a ≡ b → (a ≡ true → c ≡ d) → (a && c) ≡ (b && d)
guarded true b c d e f = f refl ∙ ap (λ z. z && d) e
guarded false b c d e f = ap (λ z. z && d) e

unguarded : (a b c d : Bool) → a ≡ true → a ≡ b → (a && c) ≡ (b && d) → c ≡ d
unguarded a b c d t e f = ap (λ z. z && c) (sym t) ∙ f ∙ ap (λ z. z && d) (sym e ∙ t)

and_true : (b : Bool) → (b && true) ≡ b
and_true true = refl
and_true false = refl

earlier_none : (o : Option ℕ) → earlier o None ≡ o
earlier_none None = refl
earlier_none (Some a) = refl

lesser : (a b p : ℕ) → (not (nat_lt a p) && not (nat_lt b p)) ≡ not (nat_lt (min a b) p)
lesser a b p = grind (arith, nat_tests)

both_before : (a b : Option ℕ) (p : ℕ) → (not (was_before a p) && not (was_before b p)) ≡ not (was_before (earlier a b) p)
both_before None None p = refl
both_before None (Some b) p = refl
both_before (Some a) None p = and_true (not (nat_lt a p))
both_before (Some a) (Some b) p = lesser a b p

-- ---- the parent's mark

record Found (P : IdMark → Type 0) (marks : List IdMark) (q : ℕ) : Type 0 where
  mark : IdMark
  id : mark.id ≡ q
  kept : P mark
  is : closed_in (find (λ (m : IdMark). m.id == q) marks) ≡ mark.closed

found_step : (P : IdMark → Type 0) (m : IdMark) (marks : List IdMark) (q : ℕ) (b : Bool) → (m.id == q) ≡ b → P m → (Has (mark_ids marks) q → Found P marks q) → Has (mark_ids (m ∷ marks)) q → Found P (m ∷ marks) q
found_step P m marks q true e a rest k = record { mark = m; id = eqb-true m.id q e; kept = a; is = ap (λ b. closed_in (cond b (Some m) (find (λ (n : IdMark). n.id == q) marks))) e }
found_step P m marks q false e a rest k =
    let r = rest (⊎_elim (λ (same : m.id ≡ q). not_both (m.id == q) (eq-eqb m.id q same) e) (λ (j : Has (mark_ids marks) q). j) k) in
    record { mark = r.mark; id = r.id; kept = r.kept; is = ap (λ b. closed_in (cond b (Some m) (find (λ (n : IdMark). n.id == q) marks))) e ∙ r.is }

found : (P : IdMark → Type 0) (marks : List IdMark) (q : ℕ) → Has (mark_ids marks) q → AllByRecursion P marks → Found P marks q
found P [] q k a = absurd k
found P (m ∷ marks) q k a = found_step P m marks q (m.id == q) refl a.0 (λ j. found P marks q j a.1) k

parent_at : (base : Counters) (h : List Event) (p x : ℕ) → IsLegal base h → Has (given (take p h)) x → parent_of (take p h) x ≡ parent_of h x
parent_at base h p x legal k = ap (λ (l : List ℕ). slice_get l 1) (sym (later_take base h p x legal k).line)

-- by its mark an id that was given is open
mark_open : (h : List Event) (m : IdMark) (p x : ℕ) → IsMark h m → p ≤ length h → m.id ≡ x → Has (given (take p h)) x → is_open (take p h) x ≡ not (was_before m.closed p)
mark_open h m p x i l e k =
    let same : has (running (take p h)) m.id ≡ (has (given (take p h)) m.id && is_open (take p h) m.id) = has-filter (is_open (take p h)) (given (take p h)) m.id in
    let mine : has (given (take p h)) m.id ≡ true = ap (has (given (take p h))) e ∙ has_true (given (take p h)) x k in
    ap (is_open (take p h)) (sym e)
    ∙ unguarded (has (given (take p h)) m.id) (nat_lt m.given p) (is_open (take p h) m.id) (not (was_before m.closed p)) mine (i.given p l) (sym same ∙ i.runs p l)

open_by : (base : Counters) (h : List Event) (marks : List IdMark) (m : IdMark) (o : Option ℕ) (p : ℕ) → m.parent ≡ o → IsLegal base h → p ≤ length h → IsNoted h m → AllByRecursion (IsMark h) marks
    → ((q : ℕ) → m.parent ≡ Some q → Has (mark_ids marks) q) → Has (given (take p h)) m.id → is_open (take p h) m.id ≡ not (was_before (earlier m.closed (closed_above marks o)) p)
open_by base h marks m None p e legal l i a above k =
    top_open (take p h) m.id (has_none base (take p h) m.id (legal_take base h p legal) k (parent_at base h p m.id legal k ∙ sym i.parent ∙ e))
    ∙ ap not
    (list_any_agree_on (is_end_of m.id) (is_close None m.id) (take p h) (λ y j. refl)
    ∙ ap (λ t. list_any (is_close t m.id) (take p h)) (sym e)
    ∙ i.closes p l
    ∙ ap (λ t. was_before t p) (sym (earlier_none m.closed)))
open_by base h marks m (Some q) p e legal l i a above k =
    let under = has_parent base (take p h) m.id q (legal_take base h p legal) k (parent_at base h p m.id legal k ∙ sym i.parent ∙ e) in
    let f = found (IsMark h) marks q (above q e) a in
    let its : Has (given (take p h)) q = subst (λ y. Has (given (take p h)) y) under.is under.above.given in
    let undone : list_any (is_undo_of m.id) (take p h) ≡ was_before m.closed p =
    list_any_agree_on (is_undo_of m.id) (is_close (Some q) m.id) (take p h) (λ y j. refl) ∙ ap (λ t. list_any (is_close t m.id) (take p h)) (sym e) ∙ i.closes p l in
    let opened : is_open (take p h) under.above.parent ≡ not (was_before f.mark.closed p) = ap (is_open (take p h)) under.is ∙ mark_open h f.mark p q f.kept l f.id its in
    sub_open (take p h) m.id under.above
    ∙ ap (λ b. not b && is_open (take p h) under.above.parent) undone
    ∙ ap (λ b. not (was_before m.closed p) && b) opened
    ∙ both_before m.closed f.mark.closed p
    ∙ ap (λ t. not (was_before (earlier m.closed t) p)) (sym f.is)

both_within : (n : ℕ) (a b : Option ℕ) → IfSome a (λ q. q < n) → IfSome b (λ q. q < n) → IfSome (earlier a b) (λ q. q < n)
both_within n None b i j = j
both_within n (Some a) None i j = i
both_within n (Some a) (Some b) i j = let l : min a b ≤ a = min-le_left a b in omega arith

above_within : (h : List Event) (marks : List IdMark) (o : Option ℕ) → AllByRecursion (IsMark h) marks → ((q : ℕ) → o ≡ Some q → Has (mark_ids marks) q) → IfSome (closed_above marks o) (λ q. q < length h)
above_within h marks None a k = tt
above_within h marks (Some q) a k =
    let f = found (IsMark h) marks q (k q refl) a in
    subst (λ (c : Option ℕ). IfSome c (λ p. p < length h)) (sym f.is) f.kept.within

mark_is : (base : Counters) (h : List Event) (marks : List IdMark) (m : IdMark) (above : Option ℕ) → IsLegal base h → IsNoted h m → AllByRecursion (IsMark h) marks → above ≡ closed_above marks m.parent
    → ((q : ℕ) → m.parent ≡ Some q → Has (mark_ids marks) q) → IsMark h (record m { closed = earlier m.closed above })
mark_is base h marks m above legal i a is has_above = record {
  parent = i.parent;
  given = i.given;
  within = subst (λ (o : Option ℕ). IfSome (earlier m.closed o) (λ q. q < length h)) (sym is)
      (both_within (length h) m.closed (closed_above marks m.parent) i.closed_within (above_within h marks m.parent a has_above));
  runs = λ p l.
      has-filter (is_open (take p h)) (given (take p h)) m.id
      ∙ guarded (has (given (take p h)) m.id) (nat_lt m.given p) (is_open (take p h) m.id) (not (was_before (earlier m.closed above) p)) (i.given p l)
      (λ t.
      open_by base h marks m m.parent p refl legal l i a has_above (true_has (given (take p h)) m.id t)
      ∙ ap (λ o. not (was_before (earlier m.closed o) p)) (sym is));
}

-- ---- one mark after another

has_at : (xs : List IdMark) (i : ℕ) (d : IdMark) → i < length xs → Has (mark_ids xs) (get_or xs i d).id
has_at [] i d l = absurd (omega arith)
has_at (x ∷ xs) zero d l = inl refl
has_at (x ∷ xs) (suc i) d l = inr (has_at xs i d (omega arith))

each_at : (P : IdMark → Type 0) (xs : List IdMark) (i : ℕ) (d : IdMark) → AllByRecursion P xs → i < length xs → P (get_or xs i d)
each_at P [] i d a l = absurd (omega arith)
each_at P (x ∷ xs) zero d a l = a.0
each_at P (x ∷ xs) (suc i) d a l = each_at P xs i d a.1 (omega arith)

-- a lesser id stands before
stands_before : (xs : List IdMark) (i : ℕ) (d : IdMark) (q : ℕ) → Ascending (mark_ids xs) → i < length xs → Has (mark_ids xs) q → q < (get_or xs i d).id → Has (mark_ids (take i xs)) q
stands_before [] i d q a l k b = absurd k
stands_before (x ∷ xs) zero d q a l k b = ⊎_elim
    (λ (e : x.id ≡ q). absurd (omega arith))
    (λ (j : Has (mark_ids xs) q). let u : x.id < q = all_at (λ y. x.id < y) (mark_ids xs) q a.0 j in absurd (omega arith))
    k
stands_before (x ∷ xs) (suc i) d q a l k b = ⊎_elim (λ (e : x.id ≡ q). inl e) (λ (j : Has (mark_ids xs) q). inr (stands_before xs i d q a.1 (omega arith) j b)) k

pub record SoFar (h : List Event) (noted marks : List IdMark) (i : ℕ) : Type 0 where
  pub ids : mark_ids marks ≡ mark_ids (take i noted)
  pub each : AllByRecursion (IsMark h) marks

pub sofar_more : (base : Counters) (h : List Event) (noted marks : List IdMark) (i : ℕ) (m : IdMark) (above : Option ℕ) (new : List IdMark) → IsLegal base h → AreNoted h noted → SoFar h noted marks i → i < length noted → m ≡ get_or noted i m
    → above ≡ closed_above marks m.parent → new ≡ marks ++ record m { closed = earlier m.closed above } ∷ [] → SoFar h noted new (i + 1)
sofar_more base h noted marks i m above new legal a s l is above_is pushed =
    let mine : IsNoted h m = subst (IsNoted h) (sym is) (each_at (IsNoted h) noted i m a.each l) in
    let order : Ascending (mark_ids noted) = subst Ascending (sym a.ids) (legal_sound base h legal).ascending in
    let given_here : Has (given h) m.id = subst (λ t. Has t m.id) a.ids (subst (λ (n : IdMark). Has (mark_ids noted) n.id) (sym is) (has_at noted i m l)) in
    let has_above : (q : ℕ) → m.parent ≡ Some q → Has (mark_ids marks) q = λ q e.
    (let under = has_parent base h m.id q legal given_here (sym mine.parent ∙ e) in
    let below : q < m.id = subst (λ y. y < m.id) under.is (parent_below base h m.id under.above legal given_here) in
    let stands : Has (mark_ids noted) q = subst (λ t. Has t q) (sym a.ids) (subst (λ y. Has (given h) y) under.is under.above.given) in
    subst (λ t. Has t q) (sym s.ids) (stands_before noted i m q order l stands (subst (λ (n : IdMark). q < n.id) is below))) in
    record {
      ids = ap mark_ids pushed
          ∙ map-append (λ (n : IdMark). n.id) marks (record m { closed = earlier m.closed above } ∷ [])
          ∙ ap (λ t. t ++ m.id ∷ []) s.ids
          ∙ sym (map-append (λ (n : IdMark). n.id) (take i noted) (m ∷ []))
          ∙ ap mark_ids (sym (take_more noted i m l ∙ ap (λ (n : IdMark). take i noted ++ n ∷ []) (sym is)));
      each = subst (AllByRecursion (IsMark h)) (sym pushed) (all_push (IsMark h) marks (record m { closed = earlier m.closed above }) s.each (mark_is base h marks m above legal mine s.each above_is has_above));
    }

pub marks_at_end : (base : Counters) (h : List Event) (noted marks : List IdMark) (i : ℕ) → IsLegal base h → AreNoted h noted → SoFar h noted marks i → length noted ≤ i → AreMarks h marks
marks_at_end base h noted marks i legal a s l =
    let ids : mark_ids marks ≡ given h = s.ids ∙ ap mark_ids (take_all i noted l) ∙ a.ids in
    record { ids = ids; order = subst Ascending (sym ids) (legal_sound base h legal).ascending; each = s.each }

pub sofar_ascends : (base : Counters) (h : List Event) (noted marks : List IdMark) (i : ℕ) → IsLegal base h → AreNoted h noted → SoFar h noted marks i → Ascending (mark_ids marks)
sofar_ascends base h noted marks i legal a s = subst Ascending (sym s.ids) (front_ascends noted i (subst Ascending (sym a.ids) (legal_sound base h legal).ascending))
  where
    front_all : (P : ℕ → Type 0) (xs : List IdMark) (i : ℕ) → AllByRecursion P (mark_ids xs) → AllByRecursion P (mark_ids (take i xs))
    front_all P xs zero f = tt
    front_all P [] (suc i) f = tt
    front_all P (x ∷ xs) (suc i) f = (f.0, front_all P xs i f.1)

    front_ascends : (xs : List IdMark) (i : ℕ) → Ascending (mark_ids xs) → Ascending (mark_ids (take i xs))
    front_ascends xs zero f = tt
    front_ascends [] (suc i) f = tt
    front_ascends (x ∷ xs) (suc i) f = (front_all (λ y. x.id < y) xs i f.0, front_ascends xs i f.1)

-- the first i marks are closed with their parents, the others as they were noted
pub record Closing (h : List Event) (noted marks : List IdMark) (i : ℕ) : Type 0 where
  pub so_far : SoFar h noted (take i marks) i
  pub rest : drop i marks ≡ drop i noted
  pub size : length marks ≡ length noted

abbrev behind_first : List IdMark → List IdMark
behind_first [] = []
behind_first (m ∷ marks) = marks

pub closing_none : (h : List Event) (noted : List IdMark) → Closing h noted noted 0
closing_none h noted = record { so_far = record { ids = refl; each = tt }; rest = refl; size = refl }

pub closing_more : (base : Counters) (h : List Event) (noted marks : List IdMark) (i : ℕ) (m : IdMark) (above : Option ℕ) → IsLegal base h → AreNoted h noted → Closing h noted marks i → i < length marks → m ≡ get_or marks i m
    → above ≡ closed_above (take i marks) m.parent → Closing h noted (set marks i (record m { closed = earlier m.closed above })) (i + 1)
closing_more base h noted marks i m above legal a s l is above_is =
    let closed : IdMark = record m { closed = earlier m.closed above } in
    let within : i < length noted = subst (λ n. i < n) s.size l in
    let same : get_or marks i m ∷ drop (suc i) marks ≡ get_or noted i m ∷ drop (suc i) noted = sym (drop-cons marks i m l) ∙ s.rest ∙ drop-cons noted i m within in
    record {
      so_far = sofar_more base h noted (take i marks) i m above (take (i + 1) (set marks i closed)) legal a s.so_far within (is ∙ ap (λ xs. get_or xs 0 m) same) above_is (take_more_set marks i closed l);
      rest = drop-set-lt (i + 1) marks i closed (omega arith) ∙ subst (λ n. drop n marks ≡ drop n noted) (let e : suc i ≡ i + 1 = omega arith in e) (ap behind_first same);
      size = length-set marks i closed ∙ s.size;
    }

pub closing_done : (base : Counters) (h : List Event) (noted marks : List IdMark) (i : ℕ) → IsLegal base h → AreNoted h noted → Closing h noted marks i → length marks ≤ i → AreMarks h marks
closing_done base h noted marks i legal a s l = subst (AreMarks h) (take_all i marks l) (marks_at_end base h noted (take i marks) i legal a s.so_far (subst (λ n. n ≤ i) s.size l))

-- ---- what the marks tell

pub ran : (h : List Event) (marks : List IdMark) (place x k : ℕ) (m : IdMark) (b : Bool) → AreMarks h marks → place ≤ length h → IsPlaceOf marks x k → m ≡ get_or marks k m → b ≡ runs_at m place → b ≡ has (running (take place h)) x
ran h marks place x k m b a l at is told =
    let i : IsMark h m = subst (IsMark h) (sym is) (each_at (IsMark h) marks k m a.each at.0) in
    told ∙ sym (i.runs place l) ∙ ap (has (running (take place h))) (ap (λ (n : IdMark). n.id) is ∙ at.1 m)

missing : (marks : List IdMark) (x : ℕ) → IsMissing marks x → Has (mark_ids marks) x → ⊥
missing [] x f k = k
missing (m ∷ marks) x f k = ⊎_elim (λ (e : m.id ≡ x). f 0 (omega arith) m e) (λ (j : Has (mark_ids marks) x). missing marks x (λ i l d e. f (suc i) (omega arith) d e) j) k

pub ran_not : (h : List Event) (marks : List IdMark) (place x : ℕ) → AreMarks h marks → IsMissing marks x → false ≡ has (running (take place h)) x
ran_not h marks place x a f =
    let split : given h ≡ given (take place h) ++ given (drop place h) = ap given (sym (take-append-drop place h)) ∙ filter_map-append given_by (take place h) (drop place h) in
    let none : has (given (take place h)) x ≡ false = false_from_ne_true (has (given (take place h)) x)
    (λ t. absurd (missing marks x f (subst (λ l. Has l x) (sym a.ids) (subst (λ l. Has l x) (sym split) (has_left (given (take place h)) (given (drop place h)) x (true_has (given (take place h)) x t)))))) in
    sym (has-filter (is_open (take place h)) (given (take place h)) x ∙ ap (λ b. b && is_open (take place h) x) none)
