-- The ids of a running transaction, each linked to those that were given below it.
use Rattle.std.specs.Prelude.{◌≡◌, ℕ, ◌<◌, Bool, true, List, [], ◌∷◌, ◌++◌, Option, Some, None, Contains, IfSome, cond, length, map, slice_index, slice_set}
use Rattle.std.specs.List.{AllByRecursion, HoldsAt}
use Rattle.tx_events.specs.IdLists.{Ascending}
use Rattle.history_check.specs.declared.links.Linked.{Linked}
use Rattle.history_check.specs.declared.links.OpenId.{OpenId}
use Rattle.history_check.specs.declared.links.Slot.{Slot}

abbrev pub links_of : List Slot → List Linked
links_of slots = map (λ (s : Slot). s.linked) slots

abbrev pub link_ids : List Linked → List ℕ
link_ids links = map (λ (l : Linked). l.id) links

-- the id at place k
abbrev pub id_at : List Slot → ℕ → ℕ
id_at slots k = slice_index (link_ids (links_of slots)) k

abbrev pub open_of : Linked → OpenId
open_of l = record { id = l.id; parent = l.parent }

abbrev pub open_in : Slot → Option OpenId
open_in s = cond s.is_open (Some (open_of s.linked)) None

-- those that are open
abbrev pub opens : List Slot → List OpenId
opens [] = []
opens (s ∷ slots) = cond s.is_open (open_of s.linked ∷ opens slots) (opens slots)

-- x stands at place i
abbrev pub IsPlaceOf : List Slot → ℕ → ℕ → Type 0
IsPlaceOf slots x i = (i < length slots) × HoldsAt (λ (s : Slot). s.linked.id ≡ x) slots i

-- x stands at no place
abbrev pub IsMissing : List Slot → ℕ → Type 0
IsMissing slots x = (k : ℕ) → k < length slots → HoldsAt (λ (s : Slot). s.linked.id ≡ x → ⊥) slots k

-- place k is behind this one, if there is one
abbrev pub IsBehind : Option ℕ → ℕ → Type 0
IsBehind None k = Unit {0}
IsBehind (Some j) k = j < k

-- of those before place n, this is where the last one stands that was given below p
pub record IsLastBelow (links : List Linked) (p n : ℕ) (o : Option ℕ) : Type 0 where
  pub child : IfSome o (λ j. (j < n) × HoldsAt (λ (l : Linked). l.parent ≡ Some p) links j)
  pub rest : (k : ℕ) → IsBehind o k → k < n → HoldsAt (λ (l : Linked). l.parent ≡ Some p → ⊥) links k

-- the ids ascend, each behind its parent, and each parent leads to all that were given below it
pub record AreLinked (links : List Linked) : Type 0 where
  pub order : Ascending (link_ids links)
  pub parents : AllByRecursion (λ (l : Linked). IfSome l.parent (λ p. p < l.id)) links
  pub lasts : (k : ℕ) → k < length links → HoldsAt (λ (l : Linked). IsLastBelow links l.id (length links) l.last_child) links k
  pub befores : (k : ℕ) → k < length links → HoldsAt (λ (l : Linked). IfSome l.parent (λ p. IsLastBelow links p k l.before)) links k

-- what stands at place k is open and was given below p
abbrev pub IsChild : List Slot → ℕ → ℕ → Type 0
IsChild slots p k = (k < length slots) × HoldsAt (λ (s : Slot). (s.is_open ≡ true) × (s.linked.parent ≡ Some p)) slots k

-- the places of all open ones that were given below p are put behind these
pub record AreChildrenAdded (slots : List Slot) (p : ℕ) (old new : List ℕ) : Type 0 where
  pub added : List ℕ
  pub is : new ≡ old ++ added
  pub only : AllByRecursion (IsChild slots p) added
  pub all : (k : ℕ) → IsChild slots p k → Contains added k

-- the parent's link leads to place n now, and led to the one before
pub record IsLedTo (p n : ℕ) (before : Option ℕ) (old new : List Linked) : Type 0 where
  pub place : ℕ
  pub link : Linked
  pub within : place < length old
  pub stood : HoldsAt (λ (l : Linked). l ≡ link) old place
  pub parent : link.id ≡ p
  pub led : link.last_child ≡ before
  pub is : new ≡ slice_set old place (record link { last_child = Some n })

-- what is kept of an id that is given
abbrev pub slot_of : ℕ → Option ℕ → Option ℕ → Slot
slot_of id parent before = record {
  linked = record { id = id; parent = parent; last_child = None; before = before };
  is_open = true;
}

-- the id stands behind the others
pub record IsAdded (id : ℕ) (parent : Option ℕ) (old new : List Slot) : Type 0 where
  pub linked : AreLinked (links_of new)
  pub ids : link_ids (links_of new) ≡ link_ids (links_of old) ++ id ∷ []
  pub opens : opens new ≡ opens old ++ record { id = id; parent = parent } ∷ []
