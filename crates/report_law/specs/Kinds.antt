-- What a command's line asks of its events: how many there are, of which kinds, and which numbers its reply tells. Other
-- words of an event are judged at the event's own line.
use Rattle.std.specs.Prelude.{◌≡◌, ℕ, List, length, take, slice_get, Some}
use Rattle.std.specs.List.{AllZip}
use Rattle.tx_events.specs.declared.event.By.{By}
use Rattle.tx_events.specs.declared.event.Event.{Event}
use Rattle.tx_events.specs.declared.event.Event.TheVariants as events
use Rattle.tx_events.specs.declared.multi.MultiEvent.{MultiEvent}
use Rattle.tx_events.specs.declared.multi.MultiEvent.TheVariants as multis
pub use Rattle.life_law.specs.MultiPlaces.{IsPinAt, IsSnapAt}

-- the event is of the kind that is told, and gives the id that is told
abbrev pub IsOfKind : Event → Event → Type 0
IsOfKind (events.Id by id) (events.Id its given) = given ≡ id
IsOfKind (events.Sub by parent id) (events.Sub its under given) = given ≡ id
IsOfKind (events.Undo by id) (events.Undo its other) = Unit {0}
IsOfKind (events.Commit by top) (events.Commit its other) = Unit {0}
IsOfKind (events.Abort by top) (events.Abort its other) = Unit {0}
IsOfKind (events.Snap name by) (events.Snap other its) = Unit {0}
IsOfKind (events.SnapDrop name by) (events.SnapDrop other its) = Unit {0}
IsOfKind (events.Oldest by oldest) (events.Oldest its other) = Unit {0}
IsOfKind (events.Ask by id) (events.Ask its other) = Unit {0}
IsOfKind told e = ⊥

-- the same of a multixact event; a given one has the number and the offset that are told
abbrev pub IsOfMultiKind : MultiEvent → MultiEvent → Type 0
IsOfMultiKind (multis.Gen by multi offset members) (multis.Gen its given at others) = (given ≡ multi) × (at ≡ offset)
IsOfMultiKind (multis.Hold by multi) (multis.Hold its other) = Unit {0}
IsOfMultiKind (multis.Unhold by multi) (multis.Unhold its other) = Unit {0}
IsOfMultiKind (multis.Raise by multi offset) (multis.Raise its other at) = Unit {0}
IsOfMultiKind told e = ⊥

-- the first of a command's events are of the kinds of those that are told
abbrev pub BeginAsTold : List Event → List Event → Type 0
BeginAsTold told h = AllZip IsOfKind told (take (length told) h)

abbrev pub BeginAsToldMultis : List MultiEvent → List MultiEvent → Type 0
BeginAsToldMultis told h = AllZip IsOfMultiKind told (take (length told) h)

-- where it asks, for whichever id
abbrev pub IsAskAt : List Event → By → ℕ → Type 0
IsAskAt h by place = (id : ℕ) × (slice_get h place ≡ Some (events.Ask by id))
