-- What is kept of the snapshots of a history.
use Rattle.std.specs.Prelude.{◌≡◌, ℕ, ◌↔◌, IsTrue, List, Option, Some, None, length, take, slice_get}
use Rattle.tx_events.specs.declared.event.By.{By}
use Rattle.tx_events.specs.declared.event.Event.{Event}
use Rattle.tx_events.specs.declared.event.Event.TheVariants as events
use Rattle.tx_events.specs.declared.snapshot.SnapData.{SnapData}
use Rattle.tx_events.specs.Events.{by_of}
use Rattle.tx_events.specs.Snapshots.{snapshot_data}
use Rattle.history_places.specs.declared.snaps.SnapMark.{SnapMark}

-- the mark of a snapshot that holds these lists, where its command's reply tells those
pub record IsMarkOf (held : SnapData) (told : Option SnapData) (m : SnapMark) : Type 0 where
  pub xmax : m.xmax ≡ held.xmax
  pub right : IsTrue m.right ↔ (told ≡ Some held)

-- where the event takes a snapshot, its mark; else none
abbrev pub IsSnapMark : ℕ → List Event → Option SnapData → Event → Option SnapMark → Type 0
IsSnapMark first before told (events.Snap name by) (Some m) = IsMarkOf (snapshot_data first before) told m
IsSnapMark first before told (events.Snap name by) None = ⊥
IsSnapMark first before told e (Some m) = ⊥
IsSnapMark first before told e None = Unit {0}

-- one for each event, in a life whose first id is this one; told is what the reply of a command tells
pub record AreSnapMarks (first : ℕ) (h : List Event) (told : By → Option SnapData) (marks : List (Option SnapMark)) : Type 0 where
  pub size : length marks ≡ length h
  pub each : (p : ℕ) (e : Event) (o : Option SnapMark) → slice_get h p ≡ Some e → slice_get marks p ≡ Some o → IsSnapMark first (take p h) (told (by_of e)) e o
