-- An id more is linked to those before it.
use Rattle.std.proofs.Common.{◌≡◌, ◌≢◌, ℕ, suc, zero, ◌+◌, ◌<◌, ◌≤◌, List, [], ◌∷◌, ◌++◌, Option, Some, None, Contains, IfSome, refl, ap, sym, subst, ◌∙◌, ⊎_elim, length, get_or, set, map, arith}
use Rattle.std.proofs.lemmas.Bool.{cases_lt}
use Rattle.std.proofs.lemmas.List.{get_or-set_other, get_or-set_same, get_or_append_left, get_or_default, get_or_push, length-map, length-set, length_push, map-set, map_push}
use Rattle.std.specs.List.{AllByRecursion, HoldsAt}
use Rattle.tx_events.proofs.IdListSteps.{ascending_push}
use Rattle.tx_events.proofs.ListSteps.{all_push}
use Rattle.tx_events.specs.IdLists.{Ascending}
use Rattle.history_check.specs.declared.links.Linked.{Linked}
use Rattle.history_check.specs.declared.links.Slot.{Slot}
use Rattle.history_check.specs.Links.{AreLinked, IsAdded, IsBehind, IsLastBelow, IsLedTo, link_ids, links_of, opens, slot_of}
use Rattle.history_check.proofs.Searching.{all_at}
use Rattle.history_check.proofs.Slots.{opens_append}

abbrev pub key : Linked → ℕ
key l = l.id

pub climbs : (links : List Linked) → Ascending (map key links) → (i j : ℕ) (d : Linked) → i < j → j < length links → (get_or links i d).id < (get_or links j d).id
climbs [] a i j d l m = absurd (omega arith)
climbs (s ∷ links) a i zero d l m = absurd (omega arith)
climbs (s ∷ links) a zero (suc j) d l m = all_at key (λ y. s.id < y) links j d a.0 (omega arith)
climbs (s ∷ links) a (suc i) (suc j) d l m = climbs links a.1 i j d (omega arith) (omega arith)

-- an id stands once
pub stands_once : (links : List Linked) → Ascending (map key links) → (i j : ℕ) (d : Linked) → i < length links → j < length links → (get_or links i d).id ≡ (get_or links j d).id → i ≡ j
stands_once links a i j d l m e =
    ⊎_elim
    (λ (u : i < j). let c = climbs links a i j d u m in absurd (omega arith))
    (λ (u : j ≤ i). ⊎_elim (λ (v : j < i). let c = climbs links a j i d v l in absurd (omega arith)) (λ (v : i ≤ j). omega arith) (cases_lt j i))
    (cases_lt i j)

pub each_at : (P : Linked → Type 0) (links : List Linked) (k : ℕ) (d : Linked) → AllByRecursion P links → k < length links → P (get_or links k d)
each_at P [] k d a l = absurd (omega arith)
each_at P (s ∷ links) zero d a l = a.0
each_at P (s ∷ links) (suc k) d a l = each_at P links k d a.1 (omega arith)

-- ---- the last one below an id

abbrev pub SameParents : ℕ → List Linked → List Linked → Type 0
SameParents m old new = (k : ℕ) → k < m → (d : Linked) → (get_or new k d).parent ≡ (get_or old k d).parent

child_same : (old new : List Linked) (p m : ℕ) (o : Option ℕ) → SameParents m old new → IfSome o (λ j. (j < m) × HoldsAt (λ (l : Linked). l.parent ≡ Some p) old j) → IfSome o (λ j. (j < m) × HoldsAt (λ (l : Linked). l.parent ≡ Some p) new j)
child_same old new p m None same c = tt
child_same old new p m (Some j) same c = (c.0, λ d. same j c.0 d ∙ c.1 d)

pub last_same : (old new : List Linked) (p m : ℕ) (o : Option ℕ) → SameParents m old new → IsLastBelow old p m o → IsLastBelow new p m o
last_same old new p m o same i = record {
  child = child_same old new p m o same i.child;
  rest = λ k b l d e. i.rest k b l d (sym (same k l d) ∙ e);
}

child_later : (links : List Linked) (p n : ℕ) (o : Option ℕ) → IfSome o (λ j. (j < n) × HoldsAt (λ (l : Linked). l.parent ≡ Some p) links j) → IfSome o (λ j. (j < n + 1) × HoldsAt (λ (l : Linked). l.parent ≡ Some p) links j)
child_later links p n None c = tt
child_later links p n (Some j) c = (omega (arith, c.0), c.1)

-- one more stands behind them, which isn't below that id
pub last_later : (links : List Linked) (p n : ℕ) (o : Option ℕ) → IsLastBelow links p n o → HoldsAt (λ (l : Linked). l.parent ≡ Some p → ⊥) links n → IsLastBelow links p (n + 1) o
last_later links p n o i other = record {
  child = child_later links p n o i.child;
  rest = λ k b l d e. ⊎_elim (λ (u : k < n). i.rest k b u d e) (λ (u : n ≤ k). let same : k ≡ n = omega arith in other d (subst (λ j. (get_or links j d).parent ≡ Some p) same e)) (cases_lt k n);
}

-- one more stands behind them, which is
pub last_now : (links : List Linked) (p n : ℕ) → HoldsAt (λ (l : Linked). l.parent ≡ Some p) links n → IsLastBelow links p (n + 1) (Some n)
last_now links p n is = record {
  child = (omega arith, is);
  rest = λ k b l d e. absurd (let c : n < k = b in omega arith);
}

-- ---- one more

pub record IsSameBut (a b : Linked) : Type 0 where
  pub id : b.id ≡ a.id
  pub parent : b.parent ≡ a.parent
  pub before : b.before ≡ a.before

module _ (old new : List Linked) (x : Linked) (a : AreLinked old)
    (size : length new ≡ length old + 1)
    (same : (k : ℕ) → k < length old → (d : Linked) → IsSameBut (get_or old k d) (get_or new k d))
    (last : (d : Linked) → get_or new (length old) d ≡ x)
    (above : AllByRecursion (λ y. y < x.id) (link_ids old))
    (childless : x.last_child ≡ None) where
  same_parents : (m : ℕ) → m ≤ length old → SameParents m old new
  same_parents m l k j d = (same k (omega arith) d).parent

  all_below : (ids : List ℕ) (links : List Linked) → link_ids links ≡ ids → AllByRecursion (λ y. y < x.id) ids → (k : ℕ) (d : Linked) → k < length links → (get_or links k d).id < x.id
  all_below ids links e b k d l = all_at key (λ y. y < x.id) links k d (subst (AllByRecursion (λ y. y < x.id)) (sym e) b) l

  id_at_most : (k : ℕ) (d : Linked) → k < length old + 1 → (get_or new k d).id ≤ x.id
  id_at_most k d l =
      ⊎_elim
      (λ (u : k < length old). let i = (same k u d).id in let b = all_below (link_ids old) old refl above k d u in omega arith)
      (λ (u : length old ≤ k). let e : length old ≡ k = omega arith in let i : (get_or new k d).id ≡ x.id = ap (λ j. (get_or new j d).id) (sym e) ∙ ap (λ (l : Linked). l.id) (last d) in omega arith)
      (cases_lt k (length old))

  below_parent : (o : Option ℕ) (n : ℕ) → IfSome o (λ p. p < n) → n ≤ x.id → o ≡ Some x.id → ⊥
  below_parent None n i l e = absurd cc
  below_parent (Some p) n i l e = let q : p ≡ x.id = cc in absurd (let j : p < n = i in omega arith)

  before_same : (k : ℕ) (o : Option ℕ) (b : Option ℕ) → k < length old → IfSome o (λ p. IsLastBelow old p k b) → IfSome o (λ p. IsLastBelow new p k b)
  before_same k None b l i = tt
  before_same k (Some p) b l i = last_same old new p k b (same_parents k (omega arith)) i

  pub linked_more : Ascending (link_ids new) → AllByRecursion (λ (l : Linked). IfSome l.parent (λ p. p < l.id)) new
      → ((k : ℕ) → k < length old → HoldsAt (λ (l : Linked). IsLastBelow new l.id (length old + 1) l.last_child) new k)
      → IfSome x.parent (λ p. IsLastBelow new p (length old) x.before) → AreLinked new
  linked_more order parents lasts before = record {
    order = order;
    parents = parents;
    lasts = λ k l d. ⊎_elim
        (λ (u : k < length old). subst (λ n. IsLastBelow new (get_or new k d).id n (get_or new k d).last_child) (sym size) (lasts k u d))
        (λ (u : length old ≤ k).
        let e : length old ≡ k = omega arith in
        let at : get_or new k d ≡ x = ap (λ j. get_or new j d) (sym e) ∙ last d in
        let none : IsLastBelow new x.id (length new) None = record {
          child = tt;
          rest = λ j b m c q. below_parent (get_or new j c).parent (get_or new j c).id (each_at (λ (l : Linked). IfSome l.parent (λ p. p < l.id)) new j c parents m) (id_at_most j c (omega arith)) q;
        } in
        subst (λ (l : Linked). IsLastBelow new l.id (length new) l.last_child) (sym at) (subst (IsLastBelow new x.id (length new)) (sym childless) none))
        (cases_lt k (length old));
    befores = λ k l d. ⊎_elim
        (λ (u : k < length old).
        let s = same k u d in
        subst (λ o. IfSome o (λ p. IsLastBelow new p k (get_or new k d).before)) (sym s.parent)
        (subst (λ b. IfSome (get_or old k d).parent (λ p. IsLastBelow new p k b)) (sym s.before) (before_same k (get_or old k d).parent (get_or old k d).before u (a.befores k u d))))
        (λ (u : length old ≤ k).
        let e : length old ≡ k = omega arith in
        let at : get_or new k d ≡ x = ap (λ j. get_or new j d) (sym e) ∙ last d in
        subst (λ (l : Linked). IfSome l.parent (λ p. IsLastBelow new p k l.before)) (sym at) (subst (λ j. IfSome x.parent (λ p. IsLastBelow new p j x.before)) e before))
        (cases_lt k (length old));
  }

-- ---- a top-level id

pub top_added : (slots : List Slot) (id : ℕ) → AreLinked (links_of slots) → AllByRecursion (λ x. x < id) (link_ids (links_of slots)) → IsAdded id None slots (slots ++ slot_of id None None ∷ [])
top_added slots id a above =
    let x : Linked = (slot_of id None None).linked in
    let old : List Linked = links_of slots in
    let new : List Linked = links_of (slots ++ slot_of id None None ∷ []) in
    let is : links_of (slots ++ slot_of id None None ∷ []) ≡ links_of slots ++ (slot_of id None None).linked ∷ [] = map_push (λ (s : Slot). s.linked) slots (slot_of id None None) in
    record {
      linked = subst AreLinked (sym is) (top_linked (links_of slots) id a above);
      ids = ap link_ids is ∙ map_push key (links_of slots) (slot_of id None None).linked;
      opens = opens_append slots (slot_of id None None ∷ []);
    }
  where
    top_linked : (old : List Linked) (id : ℕ) → AreLinked old → AllByRecursion (λ x. x < id) (link_ids old) → AreLinked (old ++ (slot_of id None None).linked ∷ [])
    top_linked old id a above =
        let x : Linked = (slot_of id None None).linked in
        let kept : (k : ℕ) → k < length old → (d : Linked) → get_or (old ++ (slot_of id None None).linked ∷ []) k d ≡ get_or old k d = λ k l d. get_or_append_left old ((slot_of id None None).linked ∷ []) d k l in
        let last : (d : Linked) → get_or (old ++ (slot_of id None None).linked ∷ []) (length old) d ≡ (slot_of id None None).linked = λ d. get_or_push old (slot_of id None None).linked d (length old) refl in
        linked_more old (old ++ (slot_of id None None).linked ∷ []) (slot_of id None None).linked a
        (length_push old (slot_of id None None).linked)
        (λ k l d. record { id = ap (λ (l : Linked). l.id) (kept k l d); parent = ap (λ (l : Linked). l.parent) (kept k l d); before = ap (λ (l : Linked). l.before) (kept k l d) })
        last above refl
        (subst Ascending (sym (map_push key old (slot_of id None None).linked)) (ascending_push (link_ids old) id a.order above))
        (all_push (λ (l : Linked). IfSome l.parent (λ p. p < l.id)) old (slot_of id None None).linked a.parents tt)
        (λ k l d. subst (λ (m : Linked). IsLastBelow (old ++ (slot_of id None None).linked ∷ []) m.id (length old + 1) m.last_child) (sym (kept k l d))
        (last_later (old ++ (slot_of id None None).linked ∷ []) (get_or old k d).id (length old) (get_or old k d).last_child
        (last_same old (old ++ (slot_of id None None).linked ∷ []) (get_or old k d).id (length old) (get_or old k d).last_child (λ j m c. ap (λ (l : Linked). l.parent) (kept j m c)) (a.lasts k l d))
        (λ c e. let q : None ≡ Some (get_or old k d).id = sym (ap (λ (l : Linked). l.parent) (last c)) ∙ e in absurd cc)))
        tt

-- ---- an id below another

abbrev pub new_link : ℕ → ℕ → Option ℕ → Linked
new_link p id before = (slot_of id (Some p) before).linked

module _ (old mid : List Linked) (p id : ℕ) (before : Option ℕ) (a : AreLinked old) (i : IsLedTo p (length old) before old mid) where
  ids_led : link_ids mid ≡ link_ids old
  ids_led =
      ap link_ids i.is ∙ map-set key old i.place (record i.link { last_child = Some (length old) })
      ∙ set_there key old i.place i.link i.within i.stood
    where
      set_there : (f : Linked → ℕ) (links : List Linked) (k : ℕ) (l : Linked) → k < length links → HoldsAt (λ (m : Linked). m ≡ l) links k → set (map f links) k (f l) ≡ map f links
      set_there f [] k l w s = absurd (omega arith)
      set_there f (m ∷ links) zero l w s = ap (λ (y : Linked). f y ∷ map f links) (sym (s m))
      set_there f (m ∷ links) (suc k) l w s = ap (λ t. f m ∷ t) (set_there f links k l (omega arith) (λ d. s d))

  pub led_ids : link_ids mid ≡ link_ids old
  led_ids = ids_led

  pub sub_linked : AllByRecursion (λ x. x < id) (link_ids old) → AreLinked (mid ++ new_link p id before ∷ [])
  sub_linked above =
      let x : Linked = new_link p id before in
      let new : List Linked = mid ++ new_link p id before ∷ [] in
      let size : length mid ≡ length old = ap length i.is ∙ length-set old i.place (record i.link { last_child = Some (length old) }) in
      let left : (k : ℕ) → k < length old → (d : Linked) → get_or (mid ++ new_link p id before ∷ []) k d ≡ get_or (set old i.place (record i.link { last_child = Some (length old) })) k d =
      λ k l d. get_or_append_left mid (new_link p id before ∷ []) d k (omega arith) ∙ ap (λ (t : List Linked). get_or t k d) i.is in
      let there : (d : Linked) → get_or (mid ++ new_link p id before ∷ []) i.place d ≡ record i.link { last_child = Some (length old) } =
      λ d. left i.place i.within d ∙ get_or-set_same old i.place (record i.link { last_child = Some (length old) }) d i.within in
      let other : (k : ℕ) → k < length old → k ≢ i.place → (d : Linked) → get_or (mid ++ new_link p id before ∷ []) k d ≡ get_or old k d =
      λ k l n d. left k l d ∙ get_or-set_other old i.place k (record i.link { last_child = Some (length old) }) d n in
      let last : (d : Linked) → get_or (mid ++ new_link p id before ∷ []) (length old) d ≡ new_link p id before = λ d. get_or_push mid (new_link p id before) d (length old) size in
      let stood : (d : Linked) → get_or old i.place d ≡ i.link = i.stood in
      let kept : (k : ℕ) → k < length old → (d : Linked) → IsSameBut (get_or old k d) (get_or (mid ++ new_link p id before ∷ []) k d) =
      λ k l d. by_place k i.place
      (λ (e : k ≡ i.place). subst (λ j. IsSameBut (get_or old j d) (get_or (mid ++ new_link p id before ∷ []) j d)) (sym e)
      (subst (λ (y : Linked). IsSameBut y (get_or (mid ++ new_link p id before ∷ []) i.place d)) (sym (stood d))
      (subst (IsSameBut i.link) (sym (there d)) (record { id = refl; parent = refl; before = refl }))))
      (λ (n : k ≢ i.place). subst (IsSameBut (get_or old k d)) (sym (other k l n d)) (record { id = refl; parent = refl; before = refl })) in
      let parents_same : SameParents (length old) old (mid ++ new_link p id before ∷ []) = λ k l d. (kept k l d).parent in
      let low : p < id = subst (λ n. n < id) (ap (λ (l : Linked). l.id) (stood x) ∙ i.parent) (all_at key (λ y. y < id) old i.place x above i.within) in
      let child : (c : Linked) → (get_or (mid ++ new_link p id before ∷ []) (length old) c).parent ≡ Some p = λ c. ap (λ (l : Linked). l.parent) (last c) in
      linked_more old (mid ++ new_link p id before ∷ []) (new_link p id before) a
      (length_push mid (new_link p id before) ∙ ap (λ n. n + 1) size)
      kept last above refl
      (subst Ascending (sym (map_push key mid (new_link p id before) ∙ ap (λ t. t ++ id ∷ []) ids_led)) (ascending_push (link_ids old) id a.order above))
      (all_push (λ (l : Linked). IfSome l.parent (λ q. q < l.id)) mid (new_link p id before) (subst (AllByRecursion (λ (l : Linked). IfSome l.parent (λ q. q < l.id))) (sym i.is) (parents_set old i.place i.link i.within i.stood a.parents)) low)
      (λ k l d. by_place k i.place
      (λ (e : k ≡ i.place). subst (λ j. IsLastBelow (mid ++ new_link p id before ∷ []) (get_or (mid ++ new_link p id before ∷ []) j d).id (length old + 1) (get_or (mid ++ new_link p id before ∷ []) j d).last_child) (sym e)
      (subst (λ (y : Linked). IsLastBelow (mid ++ new_link p id before ∷ []) y.id (length old + 1) y.last_child) (sym (there d))
      (subst (λ q. IsLastBelow (mid ++ new_link p id before ∷ []) q (length old + 1) (Some (length old))) (sym i.parent) (last_now (mid ++ new_link p id before ∷ []) p (length old) child))))
      (λ (n : k ≢ i.place). subst (λ (y : Linked). IsLastBelow (mid ++ new_link p id before ∷ []) y.id (length old + 1) y.last_child) (sym (other k l n d))
      (last_later (mid ++ new_link p id before ∷ []) (get_or old k d).id (length old) (get_or old k d).last_child
      (last_same old (mid ++ new_link p id before ∷ []) (get_or old k d).id (length old) (get_or old k d).last_child parents_same (a.lasts k l d))
      (λ c e.
      let q : Some p ≡ Some (get_or old k d).id = sym (child c) ∙ e in
      let same : p ≡ (get_or old k d).id = cc in
      n (stands_once old a.order k i.place d l i.within (sym same ∙ sym i.parent ∙ sym (ap (λ (l : Linked). l.id) (stood d))))))))
      (subst (λ b. IsLastBelow (mid ++ new_link p id before ∷ []) p (length old) b) i.led
      (last_same old (mid ++ new_link p id before ∷ []) p (length old) i.link.last_child parents_same
      (subst (λ (q : ℕ). IsLastBelow old q (length old) i.link.last_child) i.parent
      (subst (λ (y : Linked). IsLastBelow old y.id (length old) y.last_child) (stood x) (a.lasts i.place i.within x)))))
    where
      by_place : {P : Type 0} (k q : ℕ) → (k ≡ q → P) → (k ≢ q → P) → P
      by_place k q f g = ⊎_elim (λ (u : k < q). g (λ e. absurd (omega arith))) (λ (u : q ≤ k). ⊎_elim (λ (v : q < k). g (λ e. absurd (omega arith))) (λ (v : k ≤ q). f (omega arith)) (cases_lt q k)) (cases_lt k q)

      parents_set : (links : List Linked) (k : ℕ) (l : Linked) → k < length links → HoldsAt (λ (m : Linked). m ≡ l) links k → AllByRecursion (λ (m : Linked). IfSome m.parent (λ q. q < m.id)) links → AllByRecursion (λ (m : Linked). IfSome m.parent (λ q. q < m.id)) (set links k (record l { last_child = Some (length old) }))
      parents_set [] k l w s b = absurd (omega arith)
      parents_set (m ∷ links) zero l w s b = (subst (λ (y : Linked). IfSome y.parent (λ q. q < y.id)) (s m) b.0, b.1)
      parents_set (m ∷ links) (suc k) l w s b = (b.0, parents_set links k l (omega arith) (λ d. s d) b.1)

pub sub_added : (slots mid : List Slot) (p id : ℕ) (before : Option ℕ) → AreLinked (links_of slots) → AllByRecursion (λ x. x < id) (link_ids (links_of slots)) → IsLedTo p (length slots) before (links_of slots) (links_of mid) → opens mid ≡ opens slots → IsAdded id (Some p) slots (mid ++ slot_of id (Some p) before ∷ [])
sub_added slots mid p id before a above led same =
    let n : length slots ≡ length (links_of slots) = sym (length-map slots (λ (s : Slot). s.linked)) in
    let i = subst (λ k. IsLedTo p k before (links_of slots) (links_of mid)) n led in
    let is : links_of (mid ++ slot_of id (Some p) before ∷ []) ≡ links_of mid ++ new_link p id before ∷ [] = map_push (λ (s : Slot). s.linked) mid (slot_of id (Some p) before) in
    record {
      linked = subst AreLinked (sym is) (sub_linked (links_of slots) (links_of mid) p id before a i above);
      ids = ap link_ids is ∙ map_push key (links_of mid) (new_link p id before) ∙ ap (λ t. t ++ id ∷ []) (led_ids (links_of slots) (links_of mid) p id before a i);
      opens = opens_append mid (slot_of id (Some p) before ∷ []) ∙ ap (λ t. t ++ opens (slot_of id (Some p) before ∷ [])) same;
    }

pub led_from : (slots : List Slot) (p n k : ℕ) (s : Slot) → k < length slots → HoldsAt (λ (t : Slot). t ≡ s) slots k → s.linked.id ≡ p → IsLedTo p n s.linked.last_child (links_of slots) (links_of (set slots k (record s { linked = record s.linked { last_child = Some n } })))
led_from slots p n k s l at is = record {
  place = k;
  link = s.linked;
  within = rw (length-map slots (λ (t : Slot). t.linked)) l;
  stood = stood_map slots k l at;
  parent = is;
  led = refl;
  is = map-set (λ (t : Slot). t.linked) slots k (record s { linked = record s.linked { last_child = Some n } });
}
  where
    stood_map : (slots : List Slot) (k : ℕ) → k < length slots → HoldsAt (λ (t : Slot). t ≡ s) slots k → HoldsAt (λ (m : Linked). m ≡ s.linked) (links_of slots) k
    stood_map [] k l at = absurd (omega arith)
    stood_map (t ∷ slots) zero l at = λ d. ap (λ (u : Slot). u.linked) (at t)
    stood_map (t ∷ slots) (suc k) l at = stood_map slots k (omega arith) (λ d. at d)

abbrev pub leading : ℕ → Slot → Slot
leading n s = record s { linked = record s.linked { last_child = Some n } }

pub led_at : (slots : List Slot) (p n k : ℕ) (d e : Slot) → k < length slots → HoldsAt (λ (s : Slot). s.linked.id ≡ p) slots k → IsLedTo p n (get_or slots k d).linked.last_child (links_of slots) (links_of (set slots k (leading n (get_or slots k e))))
led_at slots p n k d e l is =
    subst (λ (s : Slot). IsLedTo p n s.linked.last_child (links_of slots) (links_of (set slots k (leading n (get_or slots k e))))) (get_or_default slots k e d l)
    (led_from slots p n k (get_or slots k e) l (λ c. get_or_default slots k c e l) (is e))

pub led_length : (old new : List Slot) (p n : ℕ) (o : Option ℕ) → IsLedTo p n o (links_of old) (links_of new) → length new ≡ length old
led_length old new p n o i =
    let a : length (links_of new) ≡ length (links_of old) = ap length i.is ∙ length-set (links_of old) i.place (record i.link { last_child = Some n }) in
    sym (length-map new (λ (s : Slot). s.linked)) ∙ a ∙ length-map old (λ (s : Slot). s.linked)
