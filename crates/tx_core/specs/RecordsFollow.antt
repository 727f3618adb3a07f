-- The counters after each record are a base; what the records name was given or announced; what is flushed was appended.
use Rattle.std.specs.Prelude.{◌≡◌, ℕ, ◌+◌, ◌<◌, ◌≤◌, ◌⊎◌, List, ◌∷◌, length, take, Contains}
use Rattle.tx_events.specs.Ids.{IsFullId}
use Rattle.tx_events.specs.declared.event.By.{By}
use Rattle.tx_events.specs.declared.event.Event.TheVariants as events
use Rattle.tx_events.specs.declared.multi.Member.{Member}
use Rattle.tx_events.specs.declared.multi.MultiEvent.TheVariants as multis
use Rattle.tx_events.specs.declared.record.Counters.{Counters}
use Rattle.tx_events.specs.declared.record.Rec.{Rec}
use Rattle.tx_events.specs.declared.record.Rec.TheVariants as records
use Rattle.tx_events.specs.After.{after_record, after_records, ids_of}
use Rattle.tx_events.specs.Base.{IsBase}
use Rattle.tx_events.specs.Events.{given_to}
use Rattle.tx_events.specs.History.{next_given}
use Rattle.tx_events.specs.Multis.{next_made, free_offset}
use Rattle.tx_core.specs.declared.entry.Entry.{Entry}
use Rattle.tx_core.specs.declared.entry.Kind.{Kind}
use Rattle.tx_core.specs.declared.entry.Kind.TheVariants as kinds
use Rattle.tx_core.specs.declared.entry.Start.{Start}
use Rattle.tx_core.specs.Entries.{flushed_to, history, records_in, recs_in}
use Rattle.tx_core.specs.Lists.{Upheld}
use Rattle.tx_core.specs.MultiEntries.{multi_history}

-- the counters after these entries of the log
abbrev pub counters_after : Start → List Entry → Counters
counters_after start es = after_records start.base (recs_in es)

-- the oldest id was announced, or is that of the start
abbrev pub IsOldestAnnounced : Start → List (List Entry) → ℕ → Type 0
IsOldestAnnounced start lists oldest = (oldest ≡ start.base.oldest) ⊎ ((by : By) × Contains (history lists) (events.Oldest by oldest))

-- so was the oldest multixact, together with its offset
abbrev pub IsMultiAnnounced : Start → List (List Entry) → ℕ → ℕ → Type 0
IsMultiAnnounced start lists multi offset =
    ((multi ≡ start.base.oldest_multi) × (offset ≡ start.base.oldest_offset)) ⊎ ((by : By) × Contains (multi_history lists) (multis.Raise by multi offset))

-- the next multixact and the next offset are those of one place of the multixacts' history
abbrev pub IsMultiAt : Start → List (List Entry) → ℕ → ℕ → Type 0
IsMultiAt start lists multi offset =
    (p : ℕ) × (p ≤ length (multi_history lists)) × (multi ≡ next_made start.base.multi (take p (multi_history lists))) × (offset ≡ free_offset start.base.offset (take p (multi_history lists)))

-- no counter of the one is past that of the other
pub record AreNotBelow (low high : Counters) : Type 0 where
  pub next : low.next ≤ high.next
  pub oldest : low.oldest ≤ high.oldest
  pub multi : low.multi ≤ high.multi
  pub offset : low.offset ≤ high.offset
  pub oldest_multi : low.oldest_multi ≤ high.oldest_multi
  pub oldest_offset : low.oldest_offset ≤ high.oldest_offset

-- A checkpoint has the number of its place, and counters that the log or the histories had: so the log's counters behind
-- it are its own.
pub record CheckpointOf (start : Start) (lists : List (List Entry)) (before : List Entry) (number : ℕ) (counters : Counters) : Type 0 where
  pub place : number ≡ start.from + length (records_in before)
  pub not_below : AreNotBelow (counters_after start before) counters
  pub next : counters.next ≤ next_given start.base.next (history lists)
  pub multi : ((counters.multi ≡ (counters_after start before).multi) × (counters.offset ≡ (counters_after start before).offset))
      ⊎ IsMultiAt start lists counters.multi counters.offset
  pub oldest : IsOldestAnnounced start lists counters.oldest
  pub oldest_multi : IsMultiAnnounced start lists counters.oldest_multi counters.oldest_offset

abbrev pub CountersOf : Start → List (List Entry) → List Entry → Rec → Type 0
CountersOf start lists before (records.Checkpoint number counters) = CheckpointOf start lists before number counters
CountersOf start lists before (records.Truncate oldest multi offset) = IsOldestAnnounced start lists oldest × IsMultiAnnounced start lists multi offset
CountersOf start lists before _ = Unit {0}

abbrev pub AppendOf : Start → List (List Entry) → List Entry → Kind → Type 0
AppendOf start lists before (kinds.Append rec) = IsBase (after_record (counters_after start before) rec) × CountersOf start lists before rec
AppendOf start lists before _ = Unit {0}

abbrev pub NeedsCounters : Start → List (List Entry) → ℕ → List Entry → Entry → Type 0
NeedsCounters start lists lock before e = AppendOf start lists before e.kind

-- the multixact was given to the session at this offset with these members
abbrev pub IsGenOf : List (List Entry) → ℕ → ℕ → ℕ → List Member → Type 0
IsGenOf lists session multi offset members = (by : By) × (by.session ≡ session) × Contains (multi_history lists) (multis.Gen by multi offset members)

-- an abort record names ids that were given to its session; the record of a multixact one that its session was given, and
-- full ids as members, none that wasn't given
abbrev pub IdsOf : Start → List (List Entry) → By → Rec → Type 0
IdsOf start lists by (records.Abort top subs) = (id : ℕ) → Contains (top ∷ subs) id → Contains (given_to by.session (history lists)) id
IdsOf start lists by (records.Multi multi offset members) =
    IsGenOf lists by.session multi offset members × ((id : ℕ) → Contains (ids_of members) id → id < next_given start.base.next (history lists))
    × ((id : ℕ) → Contains (ids_of members) id → IsFullId id)
IdsOf start lists by _ = Unit {0}

abbrev pub NamedOf : Start → List (List Entry) → By → Kind → Type 0
NamedOf start lists by (kinds.Append rec) = IdsOf start lists by rec
NamedOf start lists by _ = Unit {0}

abbrev pub NeedsNamed : Start → List (List Entry) → ℕ → List Entry → Entry → Type 0
NeedsNamed start lists lock before e = NamedOf start lists e.by e.kind

-- a flush is of records that were appended before, and of all that were flushed before
abbrev pub FlushOf : Start → List Entry → Kind → Type 0
FlushOf start before (kinds.Flush to) = (flushed_to start before ≤ to) × (to ≤ start.from + length (records_in before))
FlushOf start before _ = Unit {0}

abbrev pub NeedsFlush : Start → List (List Entry) → ℕ → List Entry → Entry → Type 0
NeedsFlush start lists lock before e = FlushOf start before e.kind

-- The counters after each record are a base. A checkpoint's are not below those of the records before it, and neither
-- they nor a truncation's are past what was given or announced. The ids that abort records and records of multixacts
-- name were given, and so was the multixact. A flush reaches no further than the records before it, and no less far than
-- the flush before it.
pub record RecordsFollow (start : Start) (lists : List (List Entry)) : Type 0 where
  pub counters : Upheld (NeedsCounters start) lists
  pub named : Upheld (NeedsNamed start) lists
  pub flushed : Upheld (NeedsFlush start) lists

-- what a session knows that adds the entry
pub record MayFollow (start : Start) (seen : List (List Entry)) (lock : ℕ) (before : List Entry) (e : Entry) : Type 0 where
  pub counters : NeedsCounters start seen lock before e
  pub named : NeedsNamed start seen lock before e
  pub flushed : NeedsFlush start seen lock before e
