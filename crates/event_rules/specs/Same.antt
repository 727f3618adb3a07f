-- Whether two events are the same.
use Rattle.std.specs.Prelude.{◌==◌, ◌&&◌, Bool, true, false, List, [], ◌∷◌}
use Rattle.tx_events.specs.declared.event.Event.{Event}
use Rattle.tx_events.specs.declared.event.Event.TheVariants as events
use Rattle.tx_events.specs.declared.multi.Member.{Member}
use Rattle.tx_events.specs.declared.multi.MultiEvent.{MultiEvent}
use Rattle.tx_events.specs.declared.multi.MultiEvent.TheVariants as multis
use Rattle.tx_events.specs.Events.{same_by, same_name}
use Rattle.tx_events.specs.Modes.{mode_number}

abbrev pub same_event : Event → Event → Bool
same_event (events.Id by id) (events.Id its other) = same_by by its && (id == other)
same_event (events.Sub by parent id) (events.Sub its under other) = same_by by its && ((parent == under) && (id == other))
same_event (events.Undo by id) (events.Undo its other) = same_by by its && (id == other)
same_event (events.Commit by top) (events.Commit its other) = same_by by its && (top == other)
same_event (events.Abort by top) (events.Abort its other) = same_by by its && (top == other)
same_event (events.Snap name by) (events.Snap other its) = same_by by its && same_name name other
same_event (events.SnapDrop name by) (events.SnapDrop other its) = same_by by its && same_name name other
same_event (events.Oldest by oldest) (events.Oldest its other) = same_by by its && (oldest == other)
same_event (events.Ask by id) (events.Ask its other) = same_by by its && (id == other)
same_event e other = false

abbrev pub same_member : Member → Member → Bool
same_member m n = (m.id == n.id) && (mode_number m.mode == mode_number n.mode)

abbrev pub same_members : List Member → List Member → Bool
same_members [] [] = true
same_members (m ∷ ms) (n ∷ ns) = same_member m n && same_members ms ns
same_members ms ns = false

abbrev pub same_multi : MultiEvent → MultiEvent → Bool
same_multi (multis.Gen by multi offset members) (multis.Gen its given at others) =
    same_by by its && ((multi == given) && ((offset == at) && same_members members others))
same_multi (multis.Hold by multi) (multis.Hold its other) = same_by by its && (multi == other)
same_multi (multis.Unhold by multi) (multis.Unhold its other) = same_by by its && (multi == other)
same_multi (multis.Raise by multi offset) (multis.Raise its other at) = same_by by its && ((multi == other) && (offset == at))
same_multi e other = false
