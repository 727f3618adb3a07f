-- How many ids sessions have open behind their events.
use Rattle.std.specs.Prelude.{◌≡◌, ℕ, ◌+◌, List, Some, length, slice_get, take}
use Rattle.tx_events.specs.declared.event.Event.{Event}
use Rattle.tx_events.specs.declared.record.Counters.{Counters}
use Rattle.tx_events.specs.Events.{by_of}
use Rattle.tx_events.specs.Running.{open_ids}

-- at each event, how many its session has open behind it
pub record AreOpenCounts (h : List Event) (counts : List ℕ) : Type 0 where
  pub size : length counts ≡ length h
  pub each : (p : ℕ) (e : Event) (n : ℕ) → slice_get h p ≡ Some e → slice_get counts p ≡ Some n → n ≡ length (open_ids (by_of e).session (take (p + 1) h))

-- a life whose history is legal
pub record LegalLife : Type 0 where
  pub base : Counters
  pub events : List Event
