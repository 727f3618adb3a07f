-- What the steps of a checkpoint add to the lists.
use Rattle.std.specs.Prelude.{◌≡◌, ◌≢◌, ℕ, ◌+◌, ◌<◌, ◌≤◌, ◌⊎◌, List, [], ◌∷◌, ◌++◌, length, Result, Ok, Err}
use Rattle.disk_core.specs.Faults.{HasRisen}
use Rattle.notes.specs.Lists.{at}
use Rattle.tx_events.specs.declared.event.By.{By}
use Rattle.tx_events.specs.declared.refusal.Lock.{Lock}
use Rattle.tx_events.specs.declared.refusal.Lock.TheVariants as locks
use Rattle.tx_events.specs.declared.record.Rec.TheVariants as records
use Rattle.life_law.specs.LifeLog.{counters_behind}
use Rattle.tx_core.specs.declared.entry.Entry.{Entry}
use Rattle.tx_core.specs.declared.entry.Start.{Start}
use Rattle.tx_core.specs.Entries.{history}
use Rattle.tx_core.specs.FaultsRise.{faults_told}
use Rattle.tx_core.specs.Locks.{log_lock, number_of}
use Rattle.tx_core.specs.MultiEntries.{multi_history}
use Rattle.wal_core.specs.declared.refusal.LogRefusal.{LogRefusal}
use Rattle.wal_core.specs.declared.refusal.LogRefusal.TheVariants as refusals
use Rattle.engine_parts.specs.Faults.{fault_by, flush_fault_by}
use Rattle.engine_parts.specs.LogTail.{LacksRoom, tail_of}
use Rattle.host_sections.specs.HostEntries.{checkpoint_by, flush_by, forget_by, forget_fault_by, next_number, sync_by}

-- the host's, which has no commands
abbrev pub host_by : Start → By
host_by start = record { session = start.sessions; command = 0 }

-- these entries were added at this lock, and nothing elsewhere
pub record AddsAt (lock : ℕ) (added : List Entry) (old new : List (List Entry)) : Type 0 where
  pub long : length new ≡ length old
  pub here : at new lock ≡ at old lock ++ added
  pub others : (other : ℕ) → other ≢ lock → at new other ≡ at old other

-- a sync at each lock from the one up to the other, and nothing elsewhere
pub record AddsSyncs (by : By) (from upto : ℕ) (old new : List (List Entry)) : Type 0 where
  pub long : length new ≡ length old
  pub here : (lock : ℕ) → from ≤ lock → lock < upto → at new lock ≡ at old lock ++ sync_by by ∷ []
  pub others : (lock : ℕ) → (from ≤ lock → lock < upto → ⊥) → at new lock ≡ at old lock

-- the volume of a bank of one of the four stores
abbrev pub IsBuiltBank : ℕ → Lock → Type 0
IsBuiltBank banks (locks.Xact bank) = bank < banks
IsBuiltBank banks (locks.Subtrans bank) = bank < banks
IsBuiltBank banks (locks.Offsets bank) = bank < banks
IsBuiltBank banks (locks.Members bank) = bank < banks
IsBuiltBank banks lock = ⊥

-- the banks before this one were synced, and its volume failed
pub record FailsAt (start : Start) (by : By) (from upto : ℕ) (lock : Lock) (old new : List (List Entry)) : Type 0 where
  pub built : IsBuiltBank start.banks lock
  pub within : (from ≤ number_of lock) × (number_of lock < upto)
  pub mid : List (List Entry)
  pub synced : AddsSyncs by from (number_of lock) old mid
  pub count : ℕ
  pub risen : HasRisen (faults_told start (number_of lock) (at old (number_of lock))) count
  pub fails : AddsAt (number_of lock) (fault_by by count ∷ []) mid new

-- each bank from the one lock up to the other is synced, or the volume of one failed
abbrev pub SyncsBanks : {T : Type 0} → Start → By → ℕ → ℕ → List (List Entry) → List (List Entry) → Result T Lock → Type 0
SyncsBanks start by from upto old new (Ok done) = AddsSyncs by from upto old new
SyncsBanks start by from upto old new (Err lock) = FailsAt start by from upto lock old new

-- By the log's list there is no room for the record of a checkpoint of the counters as they stand.
abbrev pub LacksCheckpointRoom : Start → List (List Entry) → Type 0
LacksCheckpointRoom start lists =
    LacksRoom (tail_of start (at lists log_lock))
    (records.Checkpoint (next_number start lists) (counters_behind start.base (history lists) (multi_history lists)))

-- the checkpoint of the counters as they stand, under the log's next number
abbrev pub checkpoint_now : Start → By → List (List Entry) → Entry
checkpoint_now start by lists =
    checkpoint_by by (next_number start lists) (counters_behind start.base (history lists) (multi_history lists))

-- the log's volume failed in the flush of the checkpoint, or in the forget before it
pub record FailsBehind (start : Start) (by : By) (old new : List (List Entry)) : Type 0 where
  pub count : ℕ
  pub risen : HasRisen (faults_told start log_lock (at old log_lock)) count
  pub adds : AddsAt log_lock (checkpoint_now start by old ∷ flush_fault_by by count ∷ []) old new
      ⊎ AddsAt log_lock (checkpoint_now start by old ∷ flush_by by (next_number start old + 1)
      ∷ forget_fault_by by (next_number start old) count ∷ []) old new

-- The checkpoint is appended, put on disk, and the log is forgotten before it. Or the log's volume failed then, or
-- before it the log had no room for its record, or memory was wanting.
abbrev pub WritesCheckpoint : {T : Type 0} → Start → By → List (List Entry) → List (List Entry) → Result T LogRefusal → Type 0
WritesCheckpoint start by old new (Ok done) =
    AddsAt log_lock (checkpoint_now start by old ∷ flush_by by (next_number start old + 1)
    ∷ forget_by by (next_number start old) ∷ []) old new
WritesCheckpoint start by old new (Err refusals.LogFault) = FailsBehind start by old new
WritesCheckpoint start by old new (Err refusals.Full) = (new ≡ old) × LacksCheckpointRoom start old
WritesCheckpoint start by old new (Err refusals.Memory) = new ≡ old
WritesCheckpoint start by old new (Err refusal) = ⊥
