-- What is kept of the ids of a history: below which each was given, by which event, and which one closed it.
use Rattle.std.specs.Prelude.{◌≡◌, ℕ, ◌<◌, ◌≤◌, ◌==◌, ◌&&◌, not, nat_lt, min, cond, Bool, true, false, List, [], ◌∷◌, Option, Some, None, length, map, take}
use Rattle.std.specs.List.{AllByRecursion, HoldsAt, find, list_any}
use Rattle.std.specs.Prelude.{IfSome}
use Rattle.tx_events.specs.declared.event.Event.{Event}
use Rattle.tx_events.specs.declared.event.Event.TheVariants as events
use Rattle.tx_events.specs.Events.{given, is_end_of, is_undo_of}
use Rattle.tx_events.specs.IdLists.{Ascending, has}
use Rattle.tx_events.specs.Running.{running}
use Rattle.history_check.specs.GivenIds.{was_before}
use Rattle.history_check.specs.Opened.{parent_of}
use Rattle.history_places.specs.declared.mark.IdMark.{IdMark}

abbrev pub mark_ids : List IdMark → List ℕ
mark_ids marks = map (λ (m : IdMark). m.id) marks

-- x stands at place i
abbrev pub IsPlaceOf : List IdMark → ℕ → ℕ → Type 0
IsPlaceOf marks x i = (i < length marks) × HoldsAt (λ (m : IdMark). m.id ≡ x) marks i

-- x stands at no place
abbrev pub IsMissing : List IdMark → ℕ → Type 0
IsMissing marks x = (k : ℕ) → k < length marks → HoldsAt (λ (m : IdMark). m.id ≡ x → ⊥) marks k

-- the id ran at place p, by its mark
abbrev pub runs_at : IdMark → ℕ → Bool
runs_at m p = nat_lt m.given p && not (was_before m.closed p)

-- what a mark says of its id is so at each place
pub record IsMark (h : List Event) (m : IdMark) : Type 0 where
  pub parent : m.parent ≡ parent_of h m.id
  pub given : (p : ℕ) → p ≤ length h → has (given (take p h)) m.id ≡ nat_lt m.given p
  pub within : IfSome m.closed (λ q. q < length h)
  pub runs : (p : ℕ) → p ≤ length h → has (running (take p h)) m.id ≡ runs_at m p

-- all ids that were given have marks, in their order
pub record AreMarks (h : List Event) (marks : List IdMark) : Type 0 where
  pub ids : mark_ids marks ≡ given h
  pub order : Ascending (mark_ids marks)
  pub each : AllByRecursion (IsMark h) marks

-- ---- what an event says by itself

-- it closes the id: the end of a top, the undo of a savepoint's
abbrev pub is_close : Option ℕ → ℕ → Event → Bool
is_close None x e = is_end_of x e
is_close (Some parent) x e = is_undo_of x e

abbrev pub is_unclosed : Option ℕ → Bool
is_unclosed None = true
is_unclosed (Some p) = false

-- what the event at place p leaves of a mark
abbrev pub noted : ℕ → Event → IdMark → IdMark
noted p e m = cond (is_unclosed m.closed && is_close m.parent m.id e) (record m { closed = Some p }) m

-- the mark of the id that the event at place p gives
abbrev pub mark_of : ℕ → Event → List IdMark
mark_of p (events.Id by x) = record { id = x; parent = None; given = p; closed = None } ∷ []
mark_of p (events.Sub by under x) = record { id = x; parent = Some under; given = p; closed = None } ∷ []
mark_of p e = []

pub record IsNoted (h : List Event) (m : IdMark) : Type 0 where
  pub parent : m.parent ≡ parent_of h m.id
  pub within : m.given < length h
  pub given : (p : ℕ) → p ≤ length h → has (given (take p h)) m.id ≡ nat_lt m.given p
  pub closed_within : IfSome m.closed (λ q. q < length h)
  pub closes : (p : ℕ) → p ≤ length h → list_any (is_close m.parent m.id) (take p h) ≡ was_before m.closed p

pub record AreNoted (h : List Event) (marks : List IdMark) : Type 0 where
  pub ids : mark_ids marks ≡ given h
  pub each : AllByRecursion (IsNoted h) marks

-- ---- an id is closed with its parent

abbrev pub earlier : Option ℕ → Option ℕ → Option ℕ
earlier None b = b
earlier (Some a) None = Some a
earlier (Some a) (Some b) = Some (min a b)

abbrev pub closed_in : Option IdMark → Option ℕ
closed_in None = None
closed_in (Some m) = m.closed

abbrev pub closed_above : List IdMark → Option ℕ → Option ℕ
closed_above marks None = None
closed_above marks (Some parent) = closed_in (find (λ (m : IdMark). m.id == parent) marks)
