-- The longest front of a history that is legal.
use Rattle.std.specs.Prelude.{◌≡◌, ℕ, ◌≤◌, List, Option, Some, None, get_or, length, slice_get, slice_index, take}
use Rattle.tx_events.specs.declared.event.By.{By}
use Rattle.tx_events.specs.declared.event.Event.{Event}
use Rattle.tx_events.specs.declared.multi.MultiEvent.{MultiEvent}
use Rattle.tx_events.specs.declared.record.Counters.{Counters}
use Rattle.tx_events.specs.declared.snapshot.SnapData.{SnapData}
use Rattle.tx_events.specs.Events.{by_of}
use Rattle.tx_events.specs.Multis.{MultiMayCome}
use Rattle.history_check.specs.Replays.{IsLawfulNext, Replayed}
use Rattle.history_places.specs.declared.start.Start.{Start}
use Rattle.history_places.specs.MultiTold.{MultiReplayed}
use Rattle.history_places.specs.Starts.{BeginsAs}

-- the replay has the first events of the history, and the next one may not come
pub record IsFront (base : Counters) (h : List Event) (r : Replayed) : Type 0 where
  pub base_is : r.base ≡ base
  pub within : length r.events ≤ length h
  pub events_are : r.events ≡ take (length r.events) h
  pub ends : (e : Event) → slice_get h (length r.events) ≡ Some e → IsLawfulNext r e → ⊥

-- what is told by the reply of the line of this number
abbrev pub list_at : List (Option SnapData) → ℕ → Option SnapData
list_at lists line = get_or lists line None

-- each event's line is one of which its command's reply tells so
abbrev pub AreTold : (By → Option SnapData) → List Event → List ℕ → List (Option SnapData) → Type 0
AreTold told_by h numbers lists = (p : ℕ) (e : Event) → slice_get h p ≡ Some e → list_at lists (slice_index numbers p) ≡ told_by (by_of e)

-- the same of multixact events, where those of the base begin at these offsets
pub record IsMultiFront (base : Counters) (starts : List Start) (h : List MultiEvent) (r : MultiReplayed) : Type 0 where
  pub base_is : r.base ≡ base
  pub starts_are : r.starts ≡ starts
  pub within : length r.events ≤ length h
  pub events_are : r.events ≡ take (length r.events) h
  pub ends : (e : MultiEvent) → slice_get h (length r.events) ≡ Some e → MultiMayCome r.base (BeginsAs r.starts) r.events e → ⊥
