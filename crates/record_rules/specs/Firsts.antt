-- Keys that the items of a list name.
use Rattle.std.specs.Prelude.{◌≡◌, ℕ, ◌==◌, ◌&&◌, Bool, false, is_some, List}
use Rattle.std.specs.BTreeSet.{BTreeSet, contains}
use Rattle.std.specs.List.{list_any}
use Rattle.std.specs.Ordering.{nat_cmp, ordering_then}
use Rattle.std.specs.declared.cmp.Ordering.{Ordering}
use Rattle.tx_events.specs.declared.event.Event.{Event}
use Rattle.tx_events.specs.declared.event.Event.TheVariants as events
use Rattle.tx_events.specs.declared.multi.MultiEvent.{MultiEvent}
use Rattle.tx_events.specs.declared.multi.MultiEvent.TheVariants as multis
use Rattle.tx_events.specs.declared.record.Rec.{Rec}
use Rattle.tx_events.specs.declared.record.Rec.TheVariants as records
use Rattle.record_rules.specs.declared.announced.Announced.{Announced}
use Rattle.record_rules.specs.declared.announced.StartKey.{StartKey}
use Rattle.record_rules.specs.declared.firsts.Seen.{Seen}
use Rattle.near_map.specs.declared.NearMap.{NearMap}
use Rattle.near_map.specs.Near.{value_of}

-- the set has exactly the keys that some item names
abbrev pub HasKeys : {K X : Type 0} → (K → K → Ordering) → (K → X → Bool) → List X → BTreeSet K → Type 0
HasKeys {K} cmp names xs set = (k : K) → contains cmp set k ≡ list_any (names k) xs

-- the record ends the transaction of this top
abbrev pub ends_id : ℕ → Rec → Bool
ends_id id (records.Commit top subs) = top == id
ends_id id (records.Abort top subs) = top == id
ends_id id rec = false

-- it has this multixact's number
abbrev pub has_number : ℕ → Rec → Bool
has_number id (records.Multi multi offset members) = multi == id
has_number id rec = false

-- the event announces this oldest id
abbrev pub announces : ℕ → Event → Bool
announces id (events.Oldest by oldest) = oldest == id
announces id e = false

-- keys are ordered by multixact, then by offset
abbrev pub start_cmp : StartKey → StartKey → Ordering
start_cmp a b = ordering_then (nat_cmp a.multi b.multi) (nat_cmp a.offset b.offset)

-- the event raises the oldest multixact to this one, that begins there
abbrev pub raises : StartKey → MultiEvent → Bool
raises k (multis.Raise by multi offset) = (multi == k.multi) && (offset == k.offset)
raises k e = false

pub record AreAnnounced (h : List Event) (m : List MultiEvent) (a : Announced) : Type 0 where
  pub ids : HasKeys nat_cmp announces h a.ids
  pub starts : HasKeys start_cmp raises m a.starts

-- exactly the tops that some record names have a value
abbrev pub HasTops : List Rec → NearMap (Unit {0}) → Type 0
HasTops recs tops = (id : ℕ) → is_some (value_of tops id) ≡ list_any (ends_id id) recs

pub record AreSeen (recs : List Rec) (seen : Seen) : Type 0 where
  pub tops : HasTops recs seen.tops
  pub multis : HasKeys nat_cmp has_number recs seen.multis
