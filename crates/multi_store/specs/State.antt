-- The state of the generator is that of its events.
use Rattle.std.specs.Prelude.{◌≡◌, ℕ, List, length, Option, Some, None}
use Rattle.std.specs.List.{filter_map}
use Rattle.counted_map.specs.declared.CountedMap.{CountedMap}
use Rattle.tx_events.specs.declared.multi.MultiEvent.{MultiEvent}
use Rattle.tx_events.specs.declared.multi.MultiEvent.TheVariants as events
use Rattle.tx_events.specs.declared.record.Counters.{Counters}
use Rattle.tx_events.specs.Base.{IsBase}
use Rattle.tx_events.specs.Multis.{AreLegalMultis, InBase, multi_counters, pins}
use Rattle.multi_store.specs.declared.pins.PinKey.{PinKey}
use Rattle.multi_store.specs.Pins.{IsTally}

-- the offset at which the multixact that the event gives begins
abbrev pub offset_by : MultiEvent → Option ℕ
offset_by (events.Gen by multi offset members) = Some offset
offset_by _ = None

-- those of all multixacts of the life, in order
abbrev pub made_offsets : List MultiEvent → List ℕ
made_offsets h = filter_map offset_by h

pub record IsState (base : Counters) (h : List MultiEvent) (counters : Counters) (promised : ℕ) (offsets : List ℕ) (counts : CountedMap PinKey) : Type 0 where
  pub base_is : IsBase base
  pub legal : AreLegalMultis base (InBase base) h
  pub counters_are : counters ≡ multi_counters base h
  pub offsets_are : offsets ≡ made_offsets h
  pub tally : IsTally (pins h) counts
  -- the events that may come without memory: an unhold for each pin
  pub promised_is : promised ≡ length (pins h)
  -- which bounds them
  pub counters_base : IsBase counters
