-- The open ids that were given in a savepoint are those that its links lead to.
use Rattle.std.proofs.Common.{◌≡◌, ◌≢◌, ℕ, suc, zero, ◌+◌, ◌<◌, ◌≤◌, List, [], ◌∷◌, ◌++◌, Option, Some, None, Contains, refl, ap, sym, subst, ◌∙◌, inl, inr, ⊎_elim, Bool, true, false, cond, ◌==◌, ◌||◌, ◌&&◌, is_some, length, take, get_or, map, arith, eqb, eqb-true, eq-eqb, Result, Ok, Err}
use Rattle.std.specs.Global.{Vec}
use Rattle.std.specs.Prelude.{IfOk}
use Rattle.tx_events.specs.declared.sequence.Memory.{Memory}
use Rattle.std.proofs.Math.Bool.{or-true}
use Rattle.std.proofs.lemmas.Bool.{cases_Bool, false≢true}
use Rattle.std.proofs.lemmas.List.{get_or_default, length-append, take-append-le, take_all, take_more}
use Rattle.std.specs.List.{AllByRecursion, HoldsAt, dedup, filter, slice_index}
use Rattle.std.proofs.lemmas.List.Kept.{Contains-dedup_nat, Contains-from_dedup}
use Rattle.std.proofs.lemmas.List.Sorted.{Contains-permutation, IsPermutation-sym}
use Rattle.std.proofs.lemmas.Map.Keys.{IsStrictlyIncreasing-dedup}
use Rattle.std.specs.List.Sorted.{IsPermutation, IsSorted, IsStrictlyIncreasing}
use Rattle.std.specs.Ordering.{nat_cmp}
use Rattle.tx_events.specs.declared.event.Event.{Event}
use Rattle.tx_events.specs.declared.record.Counters.{Counters}
use Rattle.tx_events.specs.Events.{given}
use Rattle.tx_events.specs.History.{IsLegal}
use Rattle.tx_events.specs.IdLists.{Ascending}
use Rattle.tx_events.specs.Running.{open_ids}
use Rattle.tx_events.specs.Savepoints.{is_inside}
use Rattle.tx_events.proofs.GivenIds.{open_given}
use Rattle.tx_events.proofs.ListSteps.{all_push, all_weaker, both_all, eqb-refl}
use Rattle.tx_events.proofs.Membership.{Has, all_at, all_from, contains_has, filter_has, has_cases, has_contains, has_filter, has_left, has_map, has_right, map_has}
use Rattle.history_check.specs.declared.links.Linked.{Linked}
use Rattle.history_check.specs.declared.links.OpenId.{OpenId}
use Rattle.history_check.specs.declared.links.Slot.{Slot}
use Rattle.history_check.specs.Inside.{AreInside, IsInsideAt, IsStart, IsSubAt}
use Rattle.history_check.specs.Links.{AreChildrenAdded, AreLinked, IsChild, IsMissing, IsPlaceOf, id_at, link_ids, links_of, open_of, opens}
use Rattle.history_check.specs.Opened.{AreOpened, opened_ids, parent_of}
use Rattle.history_check.proofs.Children.{id_in_links, id_there, in_links, link_fact}
use Rattle.history_check.proofs.Linking.{climbs, stands_once}
use Rattle.history_check.proofs.OpenedSteps.{closed_ascend}
use Rattle.history_check.proofs.Parents.{HasNone, HasParent, inside_above, inside_none, parent_below, parent_open, parents}

-- ---- what stands at a place

stands : (slots : List Slot) (k : ℕ) (d : Slot) → k < length slots → (get_or slots k d).is_open ≡ true → Has (opens slots) (open_of (get_or slots k d).linked)
stands [] k d l e = absurd (omega arith)
stands (s ∷ slots) zero d l e = subst (λ b. Has (cond b (open_of s.linked ∷ opens slots) (opens slots)) (open_of s.linked)) (sym e) (inl refl)
stands (s ∷ slots) (suc k) d l e = later s.is_open (stands slots k d (omega arith) e)
  where
    later : (b : Bool) → Has (opens slots) (open_of (get_or slots k d).linked) → Has (cond b (open_of s.linked ∷ opens slots) (opens slots)) (open_of (get_or slots k d).linked)
    later true h = inr h
    later false h = h

-- x stands at place k, open
abbrev IsOpenAt : List Slot → ℕ → ℕ → Type 0
IsOpenAt slots x k = (k < length slots) × HoldsAt (λ (s : Slot). (s.is_open ≡ true) × (s.linked.id ≡ x)) slots k

stands_at : (slots : List Slot) (x : ℕ) → Has (opened_ids (opens slots)) x → (k : ℕ) × IsOpenAt slots x k
stands_at [] x h = absurd h
stands_at (s ∷ slots) x h = one s.is_open refl (λ j. stands_at slots x j) h
  where
    further : ((k : ℕ) × IsOpenAt slots x k) → (k : ℕ) × IsOpenAt (s ∷ slots) x k
    further r = (suc r.0, (omega (arith, r.1.0), λ d. r.1.1 d))

    one : (b : Bool) → s.is_open ≡ b → (Has (opened_ids (opens slots)) x → (k : ℕ) × IsOpenAt slots x k) → Has (opened_ids (cond b (open_of s.linked ∷ opens slots) (opens slots))) x → (k : ℕ) × IsOpenAt (s ∷ slots) x k
    one true e f h = ⊎_elim (λ (i : s.linked.id ≡ x). (0, (omega arith, λ d. (e, i)))) (λ j. further (f j)) h
    one false e f h = further (f h)

module _ (base : Counters) (h : List Event) (s id : ℕ) (slots : List Slot) (legal : IsLegal base h) (a : AreOpened h s (opens slots)) where
  open_there : (k : ℕ) (d : Slot) → k < length slots → (get_or slots k d).is_open ≡ true → Has (open_ids s h) (get_or slots k d).linked.id
  open_there k d l e = subst (λ t. Has t (get_or slots k d).linked.id) a.ids (map_has (λ (o : OpenId). o.id) (opens slots) (open_of (get_or slots k d).linked) (stands slots k d l e))

  parent_there : (k : ℕ) (d : Slot) → k < length slots → (get_or slots k d).is_open ≡ true → (get_or slots k d).linked.parent ≡ parent_of h (get_or slots k d).linked.id
  parent_there k d l e = all_at (λ (o : OpenId). o.parent ≡ parent_of h o.id) (opens slots) (open_of (get_or slots k d).linked) a.parents (stands slots k d l e)

  -- by its parent
  inside_by : (x p : ℕ) → Has (given h) x → Some p ≡ parent_of h x → is_inside h id x ≡ ((id == x) || is_inside h id p)
  inside_by x p g e =
      ⊎_elim
      (λ (b : HasParent h x). let f : Some p ≡ Some b.parent = e ∙ b.is in let q : p ≡ b.parent = cc in inside_above h id x b ∙ ap (λ y. (id == x) || is_inside h id y) (sym q))
      (λ (n : HasNone h x). let f : Some p ≡ None = e ∙ n.is in absurd cc)
      (parents base h legal x g)

  -- ---- what is found was given in the savepoint

  pub start_inside : (k : ℕ) → IsSubAt slots id k → IsInsideAt h id slots k
  start_inside k i = (
    i.0,
    λ d.
        let f = i.1 d in
        let x : ℕ = (get_or slots k d).linked.id in
        let told = parent_there k d i.0 f.0 in (
          f.0,
          some_parent (get_or slots k d).linked.parent f.1 (λ p e.
              inside_by (get_or slots k d).linked.id p (open_given s h (get_or slots k d).linked.id (open_there k d i.0 f.0)) (sym e ∙ told)
              ∙ ap (λ b. b || is_inside h id p) (eq-eqb id (get_or slots k d).linked.id (sym f.2))),
        ),
  )
    where
      some_parent : {P : Type 0} (o : Option ℕ) → is_some o ≡ true → ((p : ℕ) → o ≡ Some p → P) → P
      some_parent None e f = absurd cc
      some_parent (Some p) e f = f p refl

  pub child_inside : (q k : ℕ) → IsInsideAt h id slots q → IsChild slots (id_at slots q) k → IsInsideAt h id slots k
  child_inside q k i c = (
    c.0,
    λ d.
        let f = c.1 d in
        let told = parent_there k d c.0 f.0 in
        let up : is_inside h id (id_at slots q) ≡ true = ap (is_inside h id) (id_there slots q d i.0) ∙ (i.1 d).1 in (
          f.0,
          inside_by (get_or slots k d).linked.id (id_at slots q) (open_given s h (get_or slots k d).linked.id (open_there k d c.0 f.0)) (sym f.1 ∙ told)
              ∙ ap (λ b. (id == (get_or slots k d).linked.id) || b) up ∙ or-true (id == (get_or slots k d).linked.id),
        ),
  )

  -- ---- all are found

  module _ (found : List ℕ) (start : (k : ℕ) → IsSubAt slots id k → Has found k) (closed : (q k : ℕ) → Has found q → IsChild slots (id_at slots q) k → Has found k) where
    found_below : (n k : ℕ) (d : Slot) → (get_or slots k d).linked.id < n → IsInsideAt h id slots k → Has found k
    found_below zero k d l i = absurd (omega arith)
    found_below (suc n) k d l i =
        let x : ℕ = (get_or slots k d).linked.id in
        let opened : (get_or slots k d).is_open ≡ true = (i.1 d).0 in
        let mine = open_there k d i.0 opened in
        let given = open_given s h (get_or slots k d).linked.id mine in
        let told = parent_there k d i.0 opened in
        ⊎_elim
        (λ (b : HasParent h (get_or slots k d).linked.id).
        let parent : (e : Slot) → (get_or slots k e).linked.parent ≡ Some b.parent = λ e. ap (λ (t : Slot). t.linked.parent) (get_or_default slots k e d i.0) ∙ told ∙ b.is in
        ⊎_elim
        (λ (own : (id == (get_or slots k d).linked.id) ≡ true).
        start k (i.0, λ e. ((i.1 e).0, ap is_some (parent e), ap (λ (t : Slot). t.linked.id) (get_or_default slots k e d i.0) ∙ sym (eqb-true id (get_or slots k d).linked.id own))))
        (λ (other : (id == (get_or slots k d).linked.id) ≡ false).
        let up : is_inside h id b.parent ≡ true = ap (λ t. t || is_inside h id b.parent) (sym other) ∙ sym (inside_above h id (get_or slots k d).linked.id b) ∙ (i.1 d).1 in
        let there = stands_at slots b.parent (subst (λ t. Has t b.parent) (sym a.ids) (parent_open base h s (get_or slots k d).linked.id b legal mine)) in
        let low : b.parent < (get_or slots k d).linked.id = parent_below base h (get_or slots k d).linked.id b legal given in
        let same : (get_or slots there.0 d).linked.id ≡ b.parent = (there.1.1 d).1 in
        let q : Has found there.0 = found_below n there.0 d (omega arith) (there.1.0, λ e. ((there.1.1 e).0, ap (is_inside h id) ((there.1.1 e).1) ∙ up)) in
        closed there.0 k q (i.0, λ e. ((i.1 e).0, parent e ∙ ap Some (sym (id_there slots there.0 d there.1.0 ∙ same)))))
        (cases_Bool (id == (get_or slots k d).linked.id)))
        (λ (b : HasNone h (get_or slots k d).linked.id). absurd (false≢true (sym (inside_none h id (get_or slots k d).linked.id b) ∙ (i.1 d).1)))
        (parents base h legal (get_or slots k d).linked.id given)

    pub all_found : (k : ℕ) → IsInsideAt h id slots k → Has found k
    all_found k i = let d : Slot = record { linked = record { id = 0; parent = None; last_child = None; before = None }; is_open = false } in found_below (suc (get_or slots k d).linked.id) k d (omega arith) i

-- ---- the search from the first one on

pub record IsSearched (h : List Event) (id : ℕ) (slots : List Slot) (next : ℕ) (found : List ℕ) : Type 0 where
  pub only : AllByRecursion (IsInsideAt h id slots) found
  pub start : (k : ℕ) → IsSubAt slots id k → Has found k
  pub closed : (q k : ℕ) → Has (take next found) q → IsChild slots (id_at slots q) k → Has found k
  pub within : next ≤ length found

module _ (base : Counters) (h : List Event) (s id : ℕ) (slots : List Slot) (legal : IsLegal base h) (a : AreOpened h s (opens slots)) where
  pub search_begins : (found : List ℕ) → IsStart slots id found → IsSearched h id slots 0 found
  search_begins found i = record {
    only = all_weaker (IsSubAt slots id) (IsInsideAt h id slots) (λ k e. start_inside base h s id slots legal a k e) found i.only;
    start = λ k e. contains_has found k (i.all k e);
    closed = λ q k e c. absurd e;
    within = omega arith;
  }

  pub search_goes_on : (found new : List ℕ) (next place d : ℕ) → IsSearched h id slots next found → next < length found → place ≡ get_or found next d → AreChildrenAdded slots (id_at slots place) found new → IsSearched h id slots (next + 1) new
  search_goes_on found new next place d w l there c =
      let is : place ≡ get_or found next place = there ∙ get_or_default found next d place l in
      let here : Has found place = at found next place l (sym is) in
      let inside : IsInsideAt h id slots place = all_at (IsInsideAt h id slots) found place w.only here in
      let more : take (next + 1) new ≡ take next found ++ place ∷ [] =
      ap (take (next + 1)) c.is ∙ take-append-le (next + 1) found c.added (omega arith) ∙ take_more found next place l ∙ ap (λ y. take next found ++ y ∷ []) (sym is) in
      record {
        only = subst (AllByRecursion (IsInsideAt h id slots)) (sym c.is) (both_all (IsInsideAt h id slots) found c.added w.only (all_weaker (IsChild slots (id_at slots place)) (IsInsideAt h id slots) (λ k e. child_inside base h s id slots legal a place k inside e) c.added c.only));
        start = λ k e. subst (λ t. Has t k) (sym c.is) (has_left found c.added k (w.start k e));
        closed = λ q k e j. subst (λ t. Has t k) (sym c.is) (⊎_elim
            (λ old. has_left found c.added k (w.closed q k old j))
            (λ now. ⊎_elim (λ (same : place ≡ q). has_right found c.added k (contains_has c.added k (c.all k (subst (λ p. IsChild slots (id_at slots p) k) (sym same) j)))) (λ none. absurd none) now)
            (has_cases (take next found) (place ∷ []) q (subst (λ t. Has t q) more e)));
        within = longer found c.added new c.is l;
      }
    where
      at : (xs : List ℕ) (i x : ℕ) → i < length xs → get_or xs i x ≡ x → Has xs x
      at [] i x l e = absurd (omega arith)
      at (y ∷ xs) zero x l e = inl e
      at (y ∷ xs) (suc i) x l e = inr (at xs i x (omega arith) e)

      longer : (xs ys zs : List ℕ) → zs ≡ xs ++ ys → next < length xs → next + 1 ≤ length zs
      longer xs ys zs e l = subst (λ (t : List ℕ). next + 1 ≤ length t) (sym e) (simp length-append (omega arith))

  pub search_ends : (found : List ℕ) (next : ℕ) → IsSearched h id slots next found → length found ≤ next → AreInside h id slots found
  search_ends found next w l = record {
    only = w.only;
    all = λ k i. has_contains found k (all_found base h s id slots legal a found w.start (λ q k e c. w.closed q k (subst (λ t. Has t q) (sym (take_all next found l)) e) c) k i);
  }

-- ---- in order

above_all : (x : ℕ) (xs : List ℕ) → AllByRecursion (λ y. x < y) xs → (n : ℕ) → n < x → AllByRecursion (λ y. n < y) xs
above_all x xs b n l = all_weaker (λ y. x < y) (λ y. n < y) (λ y m. omega arith) xs b

pub ascends : (xs : List ℕ) → IsStrictlyIncreasing xs → Ascending xs
ascends [] f = tt
ascends (x ∷ []) f = (tt, tt)
ascends (x ∷ y ∷ xs) f =
    let r : Ascending (y ∷ xs) = ascends (y ∷ xs) (λ k l. next k (f (suc k) (omega arith))) in
    let e : x < y = f 0 (omega arith) in
    ((e, above_all y xs r.0 x e), r)
  where
    next : (k : ℕ) → slice_index (x ∷ y ∷ xs) (suc k) < slice_index (x ∷ y ∷ xs) (suc k + 1) → slice_index (y ∷ xs) k < slice_index (y ∷ xs) (k + 1)
    next k l = let e : suc k + 1 ≡ suc (k + 1) = omega arith in subst (λ j. slice_index (x ∷ y ∷ xs) (suc k) < slice_index (x ∷ y ∷ xs) j) e l

pub same_members : (xs ys : List ℕ) → Ascending xs → Ascending ys → ((x : ℕ) → Has xs x → Has ys x) → ((x : ℕ) → Has ys x → Has xs x) → xs ≡ ys
same_members [] [] a b f g = refl
same_members [] (y ∷ ys) a b f g = absurd (g y (inl refl))
same_members (x ∷ xs) [] a b f g = absurd (f x (inl refl))
same_members (x ∷ xs) (y ∷ ys) a b f g =
    let low : y ≤ x = least ys y x b (f x (inl refl)) in
    let high : x ≤ y = least xs x y a (g y (inl refl)) in
    let e : x ≡ y = omega arith in
    both e (same_members xs ys a.1 b.1
    (λ z k. ⊎_elim (λ (q : y ≡ z). let m : x < z = all_at (λ w. x < w) xs z a.0 k in absurd (omega arith)) (λ j. j) (f z (inr k)))
    (λ z k. ⊎_elim (λ (q : x ≡ z). let m : y < z = all_at (λ w. y < w) ys z b.0 k in absurd (omega arith)) (λ j. j) (g z (inr k))))
  where
    least : (zs : List ℕ) (z w : ℕ) → Ascending (z ∷ zs) → Has (z ∷ zs) w → z ≤ w
    least zs z w a k = ⊎_elim (λ (q : z ≡ w). omega arith) (λ j. let m : z < w = all_at (λ v. z < v) zs w a.0 j in omega arith) k

    both : x ≡ y → xs ≡ ys → x ∷ xs ≡ y ∷ ys
    both e t = cc

ids_rise : (slots : List Slot) (places : List ℕ) → AreLinked (links_of slots) → AllByRecursion (λ k. k < length slots) places → Ascending places → Ascending (map (id_at slots) places)
ids_rise slots [] a w r = tt
ids_rise slots (p ∷ places) a w r = (each places w.1 r.0, ids_rise slots places a w.1 r.1)
  where
    each : (ks : List ℕ) → AllByRecursion (λ k. k < length slots) ks → AllByRecursion (λ y. p < y) ks → AllByRecursion (λ y. id_at slots p < y) (map (id_at slots) ks)
    each [] v b = tt
    each (k ∷ ks) v b = (up k b.0 v.0, each ks v.1 b.1)
      where
        up : (k : ℕ) → p < k → k < length slots → id_at slots p < id_at slots k
        up k l m =
            let d : Slot = record { linked = record { id = 0; parent = None; last_child = None; before = None }; is_open = false } in
            let n : k < length (links_of slots) = in_links slots k m in
            let c = climbs (links_of slots) a.order p k d.linked l n in
            let e = id_in_links slots p d.linked (omega arith) in
            let f = id_in_links slots k d.linked m in
            omega arith

pub ids_are : (base : Counters) (h : List Event) (s id : ℕ) (slots : List Slot) (found places : List ℕ) → IsLegal base h → AreOpened h s (opens slots) → AreLinked (links_of slots) → AreInside h id slots found → Ascending places → ((x : ℕ) → Contains places x → Contains found x) → ((x : ℕ) → Contains found x → Contains places x) → Ascending (filter (is_inside h id) (open_ids s h)) → map (id_at slots) places ≡ filter (is_inside h id) (open_ids s h)
ids_are base h s id slots found places legal a linked i order to from rises =
    same_members (map (id_at slots) places) (filter (is_inside h id) (open_ids s h))
    (ids_rise slots places linked (all_from (λ k. k < length slots) places (λ k e. (inside k e).0)) order)
    rises
    (λ x e.
    let r = has_map (id_at slots) places x e in
    let d : Slot = record { linked = record { id = 0; parent = None; last_child = None; before = None }; is_open = false } in
    let f = inside r.0 r.1 in
    let at : (get_or slots r.0 d).linked.id ≡ x = sym (id_there slots r.0 d f.0) ∙ r.2 in
    subst (Has (filter (is_inside h id) (open_ids s h))) at (filter_has (is_inside h id) (open_ids s h) (get_or slots r.0 d).linked.id (open_there base h s id slots legal a r.0 d f.0 (f.1 d).0) (f.1 d).1))
    (λ x e.
    let r = has_filter (is_inside h id) (open_ids s h) x e in
    let d : Slot = record { linked = record { id = 0; parent = None; last_child = None; before = None }; is_open = false } in
    let there = stands_at slots x (subst (λ t. Has t x) (sym a.ids) r.0) in
    let at : id_at slots there.0 ≡ x = id_there slots there.0 d there.1.0 ∙ (there.1.1 d).1 in
    let f : Contains found there.0 = i.all there.0 (there.1.0, λ e. ((there.1.1 e).0, ap (is_inside h id) ((there.1.1 e).1) ∙ r.1)) in
    subst (Has (map (id_at slots) places)) at (map_has (id_at slots) places there.0 (contains_has places there.0 (from there.0 f))))
  where
    inside : (k : ℕ) → Has places k → IsInsideAt h id slots k
    inside k e = all_at (IsInsideAt h id slots) found k i.only (contains_has found k (to k (has_contains places k e)))

-- ---- where the search begins

and_parts : (a b : Bool) → (a && b) ≡ true → (a ≡ true) × (b ≡ true)
and_parts true true e = (refl, refl)
and_parts true false e = absurd cc
and_parts false b e = absurd cc

one_start : (slots : List Slot) (id k : ℕ) (d : Slot) (b : Bool) → AreLinked (links_of slots) → IsPlaceOf slots id k → b ≡ ((get_or slots k d).is_open && is_some (get_or slots k d).linked.parent) → IsStart slots id (cond b (k ∷ []) [])
one_start slots id k d b a p e = split b refl
  where
    here : (j : ℕ) → IsSubAt slots id j → k ≡ j
    here j i =
        stands_once (links_of slots) a.order k j d.linked (in_links slots k p.0) (in_links slots j i.0)
        (link_fact (λ (l : Linked). l.id ≡ id) slots k p.0 p.1 d.linked ∙ sym (link_fact (λ (l : Linked). l.id ≡ id) slots j i.0 (λ c. (i.1 c).2) d.linked))

    split : (c : Bool) → b ≡ c → IsStart slots id (cond c (k ∷ []) [])
    split true f =
        let parts = and_parts (get_or slots k d).is_open (is_some (get_or slots k d).linked.parent) (sym e ∙ f) in
        record {
          only = ((p.0, λ c. (ap (λ (s : Slot). s.is_open) (get_or_default slots k c d p.0) ∙ parts.0, ap (λ (s : Slot). is_some s.linked.parent) (get_or_default slots k c d p.0) ∙ parts.1, p.1 c)), tt);
          all = λ j i. has_contains (k ∷ []) j (inl (here j i));
        }
    split false f = record {
      only = tt;
      all = λ j i. absurd (
          let same = here j i in
          let g = i.1 d in
          let both : ((get_or slots j d).is_open && is_some (get_or slots j d).linked.parent) ≡ true = ap (λ t. t && is_some (get_or slots j d).linked.parent) g.0 ∙ g.1 in
          false≢true (sym f ∙ e ∙ ap (λ n. (get_or slots n d).is_open && is_some (get_or slots n d).linked.parent) same ∙ both));
    }

pub starts_at : (slots : List Slot) (id k : ℕ) (d : Slot) (b : Bool) (r : Result (Vec ℕ) Memory) → AreLinked (links_of slots) → IsPlaceOf slots id k → b ≡ ((get_or slots k d).is_open && is_some (get_or slots k d).linked.parent) → IfOk r (λ v. v.items ≡ cond b (k ∷ []) []) → IfOk r (λ v. IsStart slots id v.items)
starts_at slots id k d b (Ok v) a p e f = subst (IsStart slots id) (sym f) (one_start slots id k d b a p e)
starts_at slots id k d b (Err m) a p e f = tt

pub starts_nowhere : (slots : List Slot) (id : ℕ) → IsMissing slots id → IsStart slots id []
starts_nowhere slots id m = record {
  only = tt;
  all = λ j i. let d : Slot = record { linked = record { id = 0; parent = None; last_child = None; before = None }; is_open = false } in absurd (m j i.0 d (i.1 d).2);
}

pub place_at : (P : ℕ → Type 0) (xs : List ℕ) (k d : ℕ) → AllByRecursion P xs → k < length xs → P (get_or xs k d)
place_at P [] k d a l = absurd (omega arith)
place_at P (x ∷ xs) zero d a l = a.0
place_at P (x ∷ xs) (suc k) d a l = place_at P xs k d a.1 (omega arith)

-- what a search finds, in order and each once
pub ids_found : (base : Counters) (h : List Event) (s id : ℕ) (slots : List Slot) (found sorted places : List ℕ) (r : Result (Vec ℕ) Memory) → IsLegal base h → AreOpened h s (opens slots) → AreLinked (links_of slots) → AreInside h id slots found → IsPermutation found sorted → IsSorted nat_cmp sorted → places ≡ dedup eqb sorted → IfOk r (λ ids. ids.items ≡ map (id_at slots) places) → IfOk r (λ ids. ids.items ≡ filter (is_inside h id) (open_ids s h))
ids_found base h s id slots found sorted places (Err m) legal a linked i p o d f = tt
ids_found base h s id slots found sorted places (Ok ids) legal a linked i p o d f =
    f ∙ ids_are base h s id slots found places legal a linked i
    (subst Ascending (sym d) (ascends (dedup eqb sorted) (IsStrictlyIncreasing-dedup sorted o)))
    (λ x c. Contains-permutation sorted found x (IsPermutation-sym found sorted p) (Contains-from_dedup eqb sorted x (subst (λ t. Contains t x) d c)))
    (λ x c. subst (λ t. Contains t x) (sym d) (Contains-dedup_nat sorted x (Contains-permutation found sorted x p c)))
    (closed_ascend base h s (is_inside h id) legal)

pub places_within : (h : List Event) (id : ℕ) (slots : List Slot) (found sorted places : List ℕ) → AreInside h id slots found → IsPermutation found sorted → places ≡ dedup eqb sorted → AllByRecursion (λ k. k < length slots) places
places_within h id slots found sorted places i p d =
    all_from (λ k. k < length slots) places (λ k e.
    let c : Contains places k = has_contains places k e in
    let f : Has found k = contains_has found k (Contains-permutation sorted found k (IsPermutation-sym found sorted p) (Contains-from_dedup eqb sorted k (subst (λ t. Contains t k) d c))) in
    (all_at (IsInsideAt h id slots) found k i.only f).0)
