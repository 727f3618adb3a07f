-- The ids that a session has open, each with its parent, and what is kept of them.
use Rattle.std.specs.Prelude.{◌≡◌, ℕ, ◌<◌, ◌==◌, ◌||◌, not, Bool, false, List, [], ◌∷◌, ◌++◌, Option, Some, None, Contains, length, map}
use Rattle.std.specs.List.{AllByRecursion, HoldsAt, filter, slice_get}
use Rattle.tx_events.specs.declared.event.Event.{Event}
use Rattle.tx_events.specs.declared.event.Event.TheVariants as events
use Rattle.tx_events.specs.Families.{lineage}
use Rattle.tx_events.specs.Events.{given}
use Rattle.tx_events.specs.IdLists.{has}
use Rattle.tx_events.specs.Running.{open_ids}
use Rattle.tx_events.specs.Savepoints.{is_inside}
use Rattle.history_check.specs.declared.links.OpenId.{OpenId}
use Rattle.history_check.specs.declared.opened.Opened.{Opened}
use Rattle.history_check.specs.Links.{AreLinked, link_ids, links_of, opens}

-- the parent below which x was given; None of a top
abbrev pub parent_of : List Event → ℕ → Option ℕ
parent_of h x = slice_get (lineage h x) 1

abbrev pub opened_ids : List OpenId → List ℕ
opened_ids opened = map (λ (o : OpenId). o.id) opened

-- these are the session's open ids, with their parents
pub record AreOpened (h : List Event) (session : ℕ) (opened : List OpenId) : Type 0 where
  pub ids : opened_ids opened ≡ open_ids session h
  pub parents : AllByRecursion (λ (o : OpenId). o.parent ≡ parent_of h o.id) opened

-- so many are open, and the links are right
pub record IsKept (o : Opened) : Type 0 where
  pub count : o.count ≡ length (opens o.slots.items)
  pub linked : AreLinked (links_of o.slots.items)

-- nothing is kept
pub record IsFresh (o : Opened) : Type 0 where
  pub items : o.slots.items ≡ []
  pub count : o.count ≡ 0

-- what is kept of a session's ids: all of them were given, and those are open that are
pub record IsOpened (h : List Event) (session : ℕ) (o : Opened) : Type 0 where
  pub opened : AreOpened h session (opens o.slots.items)
  pub kept : IsKept o
  pub among : (x : ℕ) → Contains (link_ids (links_of o.slots.items)) x → Contains (given h) x

-- so it is of all sessions
pub record AreAllOpened (h : List Event) (sessions : ℕ) (all : List Opened) : Type 0 where
  pub size : length all ≡ sessions
  pub each : (s : ℕ) → s < sessions → HoldsAt (IsOpened h s) all s

-- the ids that an undo closes
abbrev pub AreClosed : Event → List Event → List ℕ → Type 0
AreClosed (events.Undo by id) h ids = ids ≡ filter (is_inside h id) (open_ids by.session h)
AreClosed _ h ids = Unit {0}

-- what the event leaves of its session's open ids, where an undo closes these
abbrev pub opened_after : List ℕ → Event → List OpenId → List OpenId
opened_after closed (events.Id by id) opened = opened ++ record { id = id; parent = None } ∷ []
opened_after closed (events.Sub by parent id) opened = opened ++ record { id = id; parent = Some parent } ∷ []
opened_after closed (events.Undo by id) opened = filter (λ (o : OpenId). not (has closed o.id)) opened
opened_after closed (events.Commit by top) opened = []
opened_after closed (events.Abort by top) opened = []
opened_after closed e opened = opened

-- one id more is kept, which is open
pub record IsOneMore (id : ℕ) (parent : Option ℕ) (old new : Opened) : Type 0 where
  pub opened : opens new.slots.items ≡ opens old.slots.items ++ record { id = id; parent = parent } ∷ []
  pub kept : IsKept new
  pub ids : link_ids (links_of new.slots.items) ≡ link_ids (links_of old.slots.items) ++ id ∷ []

-- the id is open no more
pub record IsClosed (id : ℕ) (old new : Opened) : Type 0 where
  pub opened : opens new.slots.items ≡ filter (λ (o : OpenId). not (o.id == id)) (opens old.slots.items)
  pub kept : IsKept new
  pub ids : link_ids (links_of new.slots.items) ≡ link_ids (links_of old.slots.items)

-- the id that the event gives is above all these, and its parent is one of them
abbrev pub MayAdd : Event → List ℕ → Type 0
MayAdd (events.Id by id) ids = AllByRecursion (λ x. x < id) ids
MayAdd (events.Sub by parent id) ids = AllByRecursion (λ x. x < id) ids × Contains ids parent
MayAdd e ids = Unit {0}

-- the ids that are kept of its session behind the event
abbrev pub ids_after : Event → List ℕ → List ℕ
ids_after (events.Id by id) ids = ids ++ id ∷ []
ids_after (events.Sub by parent id) ids = ids ++ id ∷ []
ids_after (events.Commit by top) ids = []
ids_after (events.Abort by top) ids = []
ids_after e ids = ids

-- what the event leaves is kept, where an undo closes these
pub record IsNoted (e : Event) (closed : List ℕ) (old new : Opened) : Type 0 where
  pub opened : opens new.slots.items ≡ opened_after closed e (opens old.slots.items)
  pub kept : IsKept new
  pub ids : link_ids (links_of new.slots.items) ≡ ids_after e (link_ids (links_of old.slots.items))
