-- The pins, counted.
use Rattle.std.specs.Prelude.{List}
use Rattle.std.specs.List.{count_by}
use Rattle.std.specs.Ordering.{nat_cmp, ordering_then}
use Rattle.std.specs.declared.cmp.Ordering.{Ordering}
use Rattle.counted_map.specs.declared.CountedMap.{CountedMap}
use Rattle.counted_map.specs.Counts.{Counts}
use Rattle.tx_events.specs.Multis.{Pin, same_pin}
use Rattle.multi_store.specs.declared.pins.PinKey.{PinKey}

abbrev pub pin_of : PinKey → Pin
pin_of k = (k.session, k.multi)

-- by multixact, then by session
abbrev pub pin_cmp : PinKey → PinKey → Ordering
pin_cmp a b = ordering_then (nat_cmp a.multi b.multi) (nat_cmp a.session b.session)

-- the map has each of these pins with how often it is there, and nothing else
abbrev pub IsTally : List Pin → CountedMap PinKey → Type 0
IsTally pins counts = Counts pin_cmp (λ k. count_by (same_pin (pin_of k)) pins) counts
