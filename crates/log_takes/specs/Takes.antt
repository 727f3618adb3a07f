-- Which records the log can take next.
use Rattle.std.specs.Prelude.{◌≡◌, ℕ, ◌<◌, ◌≤◌, List, ◌∷◌, Contains}
use Rattle.notes.specs.Lists.{Grows, at}
use Rattle.tx_events.specs.Ids.{IsFullId, IsFullMulti, IsXidNumber}
use Rattle.tx_events.specs.declared.event.By.{By}
use Rattle.tx_events.specs.declared.multi.Member.{Member}
use Rattle.tx_events.specs.declared.multi.MultiEvent.TheVariants as multis
use Rattle.tx_events.specs.declared.record.Rec.{Rec}
use Rattle.tx_events.specs.declared.record.Rec.TheVariants as records
use Rattle.tx_events.specs.After.{ids_of}
use Rattle.tx_events.specs.Base.{IsBase}
use Rattle.tx_events.specs.History.{next_given}
use Rattle.tx_events.specs.Horizon.{oldest_id}
use Rattle.tx_events.specs.IdLists.{Ascending}
use Rattle.tx_events.specs.Multis.{oldest_multi, oldest_offset}
use Rattle.tx_events.specs.Running.{open_ids}
use Rattle.tx_core.specs.declared.entry.Entry.{Entry}
use Rattle.tx_core.specs.declared.entry.Start.{Start}
use Rattle.tx_core.specs.EngineInvariant.{EngineInvariant}
use Rattle.tx_core.specs.Entries.{history}
use Rattle.tx_core.specs.Laws.{StaysBase}
use Rattle.tx_core.specs.Locks.{log_lock}
use Rattle.tx_core.specs.MultiEntries.{multi_history}
use Rattle.tx_core.specs.RecordsFollow.{IsMultiAnnounced, IsOldestAnnounced, counters_after}
use Rattle.wal_records.specs.Spelling.{IsLawful}

-- the record is lawful, and the log's counters behind it are a base
pub record IsTaken (start : Start) (lists : List (List Entry)) (rec : Rec) : Type 0 where
  pub lawful : IsLawful rec
  pub base : StaysBase start lists rec

-- A truncation to an oldest id, and to an oldest multixact with its offset, that were announced.
abbrev pub TruncationsTaken : Type 0
TruncationsTaken = (start : Start) (lists : List (List Entry)) (oldest multi offset : ℕ) →
    EngineInvariant start lists → IsBase start.base → IsOldestAnnounced start lists oldest → IsMultiAnnounced start lists multi offset
    → IsXidNumber oldest → IsFullMulti multi
    → IsTaken start lists (records.Truncate oldest multi offset)

-- the oldest id that the log's records tell isn't below the one that was announced in the lists of before
abbrev pub IsOldestTold : Start → List (List Entry) → List (List Entry) → Type 0
IsOldestTold start lists more =
    oldest_id start.base.oldest (history lists) ≤ (counters_after start (at more log_lock)).oldest

-- and neither are the oldest multixact and its offset
pub record AreOldestTold (start : Start) (lists more : List (List Entry)) : Type 0 where
  pub id : IsOldestTold start lists more
  pub multi : oldest_multi start.base.oldest_multi (multi_history lists) ≤ (counters_after start (at more log_lock)).oldest_multi
  pub offset : oldest_offset start.base.oldest_offset (multi_history lists) ≤ (counters_after start (at more log_lock)).oldest_offset

-- Behind a truncation that told what was announced: the commit or the abort of what a session had open.
abbrev pub EndsTaken : Type 0
EndsTaken = (start : Start) (lists more : List (List Entry)) (session top : ℕ) (subs : List ℕ) →
    EngineInvariant start lists → EngineInvariant start more → IsBase start.base
    → open_ids session (history lists) ≡ top ∷ subs → Ascending (top ∷ subs) → IsOldestTold start lists more
    → IsTaken start more (records.Commit top subs) × IsTaken start more (records.Abort top subs)

-- And a multixact that was given, whose members were given.
abbrev pub MultisTaken : Type 0
MultisTaken = (start : Start) (lists more : List (List Entry)) (by : By) (multi offset : ℕ) (members : List Member) →
    EngineInvariant start lists → EngineInvariant start more → Grows lists more → IsBase start.base → IsFullMulti multi
    → Contains (multi_history lists) (multis.Gen by multi offset members)
    → ((id : ℕ) → Contains (ids_of members) id → IsFullId id)
    → ((id : ℕ) → Contains (ids_of members) id → id < next_given start.base.next (history lists))
    → AreOldestTold start lists more
    → IsTaken start more (records.Multi multi offset members)
