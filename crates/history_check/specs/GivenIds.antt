-- What is kept of the ids of a history: the place at which each was committed.
use Rattle.std.specs.Prelude.{◌≡◌, ℕ, ◌<◌, ◌≤◌, ◌&&◌, not, nat_lt, cond, Bool, false, List, ◌∷◌, ◌++◌, [], Option, Some, None, IfSome, length, take, map}
use Rattle.std.specs.List.{AllByRecursion, HoldsAt, list_any}
use Rattle.tx_events.specs.declared.event.Event.{Event}
use Rattle.tx_events.specs.declared.event.Event.TheVariants as events
use Rattle.tx_events.specs.Events.{given, is_commit_of}
use Rattle.tx_events.specs.Families.{top}
use Rattle.tx_events.specs.IdLists.{has}
use Rattle.tx_events.specs.Running.{is_undone}
use Rattle.history_check.specs.declared.given.GivenId.{GivenId}

-- x's top has committed and no savepoint round x was rolled back
abbrev pub is_committed : List Event → ℕ → Bool
is_committed h x = list_any (is_commit_of (top h x)) h && not (is_undone h x)

-- the commit stands before place p
abbrev pub was_before : Option ℕ → ℕ → Bool
was_before None p = false
was_before (Some q) p = nat_lt q p

-- what is kept of an id is so, at each place
pub record IsKept (h : List Event) (g : GivenId) : Type 0 where
  pub within : IfSome g.committed (λ q. q < length h)
  pub times : (p : ℕ) → p ≤ length h → was_before g.committed p ≡ is_committed (take p h) g.id

abbrev pub given_ids : List GivenId → List ℕ
given_ids items = map (λ (g : GivenId). g.id) items

-- all ids that were given are kept, in their order
pub record AreKept (h : List Event) (items : List GivenId) : Type 0 where
  pub ids : given_ids items ≡ given h
  pub each : AllByRecursion (IsKept h) items

-- what a commit at place p leaves
abbrev pub with_place : List ℕ → ℕ → GivenId → GivenId
with_place ids p g = cond (has ids g.id) (record g { committed = Some p }) g

-- what the event at place p leaves, whose session has these ids open
abbrev pub given_after : List ℕ → ℕ → Event → List GivenId → List GivenId
given_after ids p (events.Id by id) items = items ++ record { id = id; committed = None } ∷ []
given_after ids p (events.Sub by parent id) items = items ++ record { id = id; committed = None } ∷ []
given_after ids p (events.Commit by top) items = map (with_place ids p) items
given_after ids p e items = items

-- x stands at place i
abbrev pub IsPlaceOf : List GivenId → ℕ → ℕ → Type 0
IsPlaceOf items x i = (i < length items) × HoldsAt (λ (g : GivenId). g.id ≡ x) items i

-- x stands at no place
abbrev pub IsMissing : List GivenId → ℕ → Type 0
IsMissing items x = (k : ℕ) → k < length items → HoldsAt (λ (g : GivenId). g.id ≡ x → ⊥) items k
