-- The walk along the links from an id to those that were given below it.
use Rattle.std.proofs.Common.{◌≡◌, ℕ, suc, zero, ◌+◌, ◌<◌, ◌≤◌, List, [], ◌∷◌, ◌++◌, Option, Some, None, Contains, IfSome, refl, ap, sym, subst, ◌∙◌, inl, ⊎_elim, Bool, true, false, cond, length, get_or, arith, append_assoc, append-nil}
use Rattle.std.proofs.lemmas.Bool.{cases_lt}
use Rattle.std.proofs.lemmas.List.{get_or-map, get_or_default, length-map}
use Rattle.std.proofs.lemmas.List.Elements.{Contains-append_left, Contains-append_right}
use Rattle.std.specs.List.{AllByRecursion, HoldsAt}
use Rattle.tx_events.proofs.ListSteps.{both_all}
use Rattle.tx_events.proofs.Membership.{has_contains}
use Rattle.history_check.specs.declared.links.Linked.{Linked}
use Rattle.history_check.specs.declared.links.Slot.{Slot}
use Rattle.history_check.specs.Links.{AreChildrenAdded, AreLinked, IsBehind, IsChild, IsLastBelow, id_at, link_ids, links_of}

-- ---- a fact of a link

pub slot_fact : (P : Linked → Type 0) (slots : List Slot) (k : ℕ) → k < length slots → HoldsAt P (links_of slots) k → HoldsAt (λ (s : Slot). P s.linked) slots k
slot_fact P slots k l h d = subst P (get_or-map (λ (s : Slot). s.linked) slots k d d.linked l) (h d.linked)

pub link_fact : (P : Linked → Type 0) (slots : List Slot) (k : ℕ) → k < length slots → HoldsAt (λ (s : Slot). P s.linked) slots k → HoldsAt P (links_of slots) k
link_fact P slots k l h e = let d : Slot = record { linked = e; is_open = true } in subst P (sym (get_or-map (λ (s : Slot). s.linked) slots k d e l)) (h d)

pub id_in_links : (slots : List Slot) (k : ℕ) (e : Linked) → k < length slots → id_at slots k ≡ (get_or (links_of slots) k e).id
id_in_links slots k e l = get_or-map (λ (l : Linked). l.id) (links_of slots) k e 0 (rw (length-map slots (λ (s : Slot). s.linked)) l)

pub id_there : (slots : List Slot) (k : ℕ) (d : Slot) → k < length slots → id_at slots k ≡ (get_or slots k d).linked.id
id_there slots k d l = get_or-map (λ (l : Linked). l.id) (links_of slots) k d.linked 0 (rw (length-map slots (λ (s : Slot). s.linked)) l) ∙ ap (λ (l : Linked). l.id) (get_or-map (λ (s : Slot). s.linked) slots k d d.linked l)

pub in_links : (slots : List Slot) (k : ℕ) → k < length slots → k < length (links_of slots)
in_links slots k l = rw (length-map slots (λ (s : Slot). s.linked)) l

-- ---- the walk

abbrev pub IsAtChild : List Slot → ℕ → Option ℕ → Type 0
IsAtChild slots p next = IfSome next (λ j. (j < length slots) × HoldsAt (λ (s : Slot). s.linked.parent ≡ Some p) slots j)

-- those behind the next one are found
pub record IsWalked (slots : List Slot) (p : ℕ) (next : Option ℕ) (old new : List ℕ) : Type 0 where
  pub added : List ℕ
  pub is : new ≡ old ++ added
  pub only : AllByRecursion (IsChild slots p) added
  pub all : (k : ℕ) → IsChild slots p k → IsBehind next k → Contains added k
  pub at : IsAtChild slots p next

abbrev pub left : Option ℕ → ℕ
left None = 0
left (Some j) = suc j

at_child : (slots : List Slot) (p n : ℕ) (next : Option ℕ) → n ≤ length slots → IfSome next (λ j. (j < n) × HoldsAt (λ (l : Linked). l.parent ≡ Some p) (links_of slots) j) → IsAtChild slots p next
at_child slots p n None l c = tt
at_child slots p n (Some j) l c = let m : j < length slots = (let i : j < n = c.0 in omega arith) in (m, slot_fact (λ (l : Linked). l.parent ≡ Some p) slots j m c.1)

parent_at : (slots : List Slot) (p k : ℕ) → IsChild slots p k → HoldsAt (λ (l : Linked). l.parent ≡ Some p) (links_of slots) k
parent_at slots p k c = link_fact (λ (l : Linked). l.parent ≡ Some p) slots k c.0 (λ d. (c.1 d).1)

some_link : (slots : List Slot) (k : ℕ) → k < length slots → Linked
some_link [] k l = absurd (omega arith)
some_link (s ∷ slots) k l = s.linked

pub walk_begins : (slots : List Slot) (place : ℕ) (d : Slot) (old : List ℕ) → AreLinked (links_of slots) → place < length slots → IsWalked slots (id_at slots place) (get_or slots place d).linked.last_child old old
walk_begins slots place d old a l =
    let n : length (links_of slots) ≡ length slots = length-map slots (λ (s : Slot). s.linked) in
    let last : IsLastBelow (links_of slots) (get_or slots place d).linked.id (length (links_of slots)) (get_or slots place d).linked.last_child =
    slot_fact (λ (m : Linked). IsLastBelow (links_of slots) m.id (length (links_of slots)) m.last_child) slots place l (a.lasts place (in_links slots place l)) d in
    let there : IsLastBelow (links_of slots) (id_at slots place) (length (links_of slots)) (get_or slots place d).linked.last_child =
    subst (λ (p : ℕ). IsLastBelow (links_of slots) p (length (links_of slots)) (get_or slots place d).linked.last_child) (sym (id_there slots place d l)) last in
    record {
      added = [];
      is = sym (append-nil old);
      only = tt;
      all = λ k c b. absurd (there.rest k b (in_links slots k c.0) (some_link slots k c.0) (parent_at slots (id_at slots place) k c (some_link slots k c.0)));
      at = at_child slots (id_at slots place) (length (links_of slots)) (get_or slots place d).linked.last_child (omega arith) there.child;
    }

before_at : (slots : List Slot) (p j : ℕ) (d : Slot) → AreLinked (links_of slots) → j < length slots → HoldsAt (λ (s : Slot). s.linked.parent ≡ Some p) slots j → IsLastBelow (links_of slots) p j (get_or slots j d).linked.before
before_at slots p j d a l is =
    let all : IfSome (get_or slots j d).linked.parent (λ q. IsLastBelow (links_of slots) q j (get_or slots j d).linked.before) =
    slot_fact (λ (m : Linked). IfSome m.parent (λ q. IsLastBelow (links_of slots) q j m.before)) slots j l (a.befores j (in_links slots j l)) d in
    subst (λ (o : Option ℕ). IfSome o (λ q. IsLastBelow (links_of slots) q j (get_or slots j d).linked.before)) (is d) all

pub walk_goes_on : (slots : List Slot) (p j : ℕ) (d e : Slot) (old new new' : List ℕ) → AreLinked (links_of slots) → IsWalked slots p (Some j) old new → new' ≡ new ++ cond (get_or slots j d).is_open (j ∷ []) [] → IsWalked slots p (get_or slots j e).linked.before old new'
walk_goes_on slots p j d e old new new' a w is =
    let b : Bool = (get_or slots j d).is_open in
    let before = before_at slots p j e a w.at.0 w.at.1 in
    record {
      added = w.added ++ cond (get_or slots j d).is_open (j ∷ []) [];
      is = is ∙ ap (λ t. t ++ cond (get_or slots j d).is_open (j ∷ []) []) w.is ∙ append_assoc old w.added (cond (get_or slots j d).is_open (j ∷ []) []);
      only = both_all (IsChild slots p) w.added (cond (get_or slots j d).is_open (j ∷ []) []) w.only (one (get_or slots j d).is_open refl);
      all = λ k c b. ⊎_elim
          (λ (u : k < j). absurd (before.rest k b u (some_link slots k c.0) (parent_at slots p k c (some_link slots k c.0))))
          (λ (u : j ≤ k). ⊎_elim
          (λ (v : j < k). Contains-append_left w.added (cond (get_or slots j d).is_open (j ∷ []) []) k (w.all k c v))
          (λ (v : k ≤ j).
          let same : k ≡ j = omega arith in
          let opened : (get_or slots j d).is_open ≡ true = ap (λ i. (get_or slots i d).is_open) (sym same) ∙ (c.1 d).0 in
          Contains-append_right w.added (cond (get_or slots j d).is_open (j ∷ []) []) k
          (subst (λ t. Contains (cond t (j ∷ []) []) k) (sym opened) (has_contains (j ∷ []) k (inl (sym same)))))
          (cases_lt j k))
          (cases_lt k j);
      at = at_child slots p j (get_or slots j e).linked.before (let i : j < length slots = w.at.0 in omega arith) before.child;
    }
  where
    one : (b : Bool) → (get_or slots j d).is_open ≡ b → AllByRecursion (IsChild slots p) (cond b (j ∷ []) [])
    one true e = ((w.at.0, λ c. (ap (λ (s : Slot). s.is_open) (get_or_default slots j c d w.at.0) ∙ e, w.at.1 c)), tt)
    one false e = tt

pub walk_falls : (slots : List Slot) (p j : ℕ) (e : Slot) → AreLinked (links_of slots) → IsAtChild slots p (Some j) → left (get_or slots j e).linked.before < suc j
walk_falls slots p j e a at = lower (get_or slots j e).linked.before (before_at slots p j e a at.0 at.1).child
  where
    lower : (o : Option ℕ) → IfSome o (λ i. (i < j) × HoldsAt (λ (l : Linked). l.parent ≡ Some p) (links_of slots) i) → left o < suc j
    lower None c = omega arith
    lower (Some i) c = let l : i < j = c.0 in omega arith

pub walk_ends : (slots : List Slot) (p : ℕ) (old new : List ℕ) → IsWalked slots p None old new → AreChildrenAdded slots p old new
walk_ends slots p old new w = record { added = w.added; is = w.is; only = w.only; all = λ k c. w.all k c tt }
