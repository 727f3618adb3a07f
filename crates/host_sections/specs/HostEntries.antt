-- What the host's critical sections add to the lists, by what the log or a bank answered.
use Rattle.std.specs.Prelude.{◌≡◌, ℕ, ◌+◌, List, length, Result, Ok, Err}
use Rattle.disk_core.specs.Faults.{HasRisen}
use Rattle.notes.specs.Lists.{add, at}
use Rattle.tx_events.specs.Ids.{IsFullMulti, IsXidNumber}
use Rattle.tx_events.specs.declared.event.By.{By}
use Rattle.tx_events.specs.declared.event.Event.{Event}
use Rattle.tx_events.specs.declared.multi.MultiEvent.{MultiEvent}
use Rattle.tx_events.specs.History.{next_given}
use Rattle.tx_events.specs.Horizon.{oldest_id}
use Rattle.tx_events.specs.Multis.{multi_counters}
use Rattle.tx_events.specs.declared.record.Counters.{Counters}
use Rattle.tx_events.specs.declared.record.Rec.{Rec}
use Rattle.tx_events.specs.declared.record.Rec.TheVariants as records
use Rattle.tx_core.specs.declared.entry.Entry.{Entry}
use Rattle.tx_core.specs.declared.entry.Kind.TheVariants as kinds
use Rattle.tx_core.specs.declared.entry.LogCall.TheVariants as calls
use Rattle.tx_core.specs.declared.entry.Start.{Start}
use Rattle.tx_core.specs.Entries.{recs_in}
use Rattle.tx_core.specs.FaultsRise.{faults_told}
use Rattle.tx_core.specs.Locks.{log_lock}
use Rattle.tx_core.specs.StaysDown.{IsUp}
use Rattle.slru_bank.specs.declared.refusal.BankRefusal.{BankRefusal}
use Rattle.slru_bank.specs.declared.refusal.BankRefusal.TheVariants as bank_refusals
use Rattle.wal_core.specs.declared.refusal.LogRefusal.{LogRefusal}
use Rattle.wal_core.specs.declared.refusal.LogRefusal.TheVariants as refusals
use Rattle.engine_parts.specs.Faults.{fault_by, flush_fault_by}
use Rattle.engine_parts.specs.LogTail.{LacksRoom, tail_of}
use Rattle.engine_parts.specs.Stand.{IsDownAt}

abbrev pub flush_by : By → ℕ → Entry
flush_by by to = record { by = by; kind = kinds.Flush to }

abbrev pub sync_by : By → Entry
sync_by by = record { by = by; kind = kinds.Sync }

abbrev pub append_by : By → Rec → Entry
append_by by rec = record { by = by; kind = kinds.Append rec }

abbrev pub checkpoint_by : By → ℕ → Counters → Entry
checkpoint_by by number counters = append_by by (records.Checkpoint number counters)

abbrev pub forget_by : By → ℕ → Entry
forget_by by number = record { by = by; kind = kinds.Forget number }

abbrev pub forget_fault_by : By → ℕ → ℕ → Entry
forget_fault_by by number count = record { by = by; kind = kinds.LogFault (calls.Forget number) count }

-- the number of the log's next record
abbrev pub next_number : Start → List (List Entry) → ℕ
next_number start lists = start.from + length (recs_in (at lists log_lock))

-- the count of a volume's faults, which has risen past what the list tells
pub record RisenCount (start : Start) (lists : List (List Entry)) (lock : ℕ) (Adds : ℕ → Type 0) : Type 0 where
  pub count : ℕ
  pub risen : HasRisen (faults_told start lock (at lists lock)) count
  pub adds : Adds count

-- the log is down behind a fault of its list, and nothing is added
pub record StaysDownAt (start : Start) (old new : List (List Entry)) (down : ℕ) : Type 0 where
  pub same : new ≡ old
  pub is_down : IsDownAt start (at old log_lock) down

-- A flush: all records are on disk. Or the log's volume failed, or the log was down.
abbrev pub AddsFlush : {T : Type 0} → Start → By → List (List Entry) → List (List Entry) → Result T LogRefusal → Type 0
AddsFlush start by old new (Ok done) = new ≡ add old log_lock (flush_by by (next_number start old))
AddsFlush start by old new (Err refusals.LogFault) =
    RisenCount start old log_lock (λ count. new ≡ add old log_lock (flush_fault_by by count))
AddsFlush start by old new (Err (refusals.LogDown down)) = StaysDownAt start old new down
AddsFlush start by old new (Err refusal) = ⊥

-- A checkpoint's record, which has the log's next number. Or the log is down, or it isn't, and has no room for that
-- record or memory was wanting.
abbrev pub AddsCheckpoint : Start → By → Counters → List (List Entry) → List (List Entry) → Result ℕ LogRefusal → Type 0
AddsCheckpoint start by counters old new (Ok number) =
    (number ≡ next_number start old) × (new ≡ add old log_lock (checkpoint_by by number counters))
AddsCheckpoint start by counters old new (Err (refusals.LogDown down)) = StaysDownAt start old new down
AddsCheckpoint start by counters old new (Err refusals.Full) =
    (new ≡ old) × IsUp (at old log_lock)
    × LacksRoom (tail_of start (at old log_lock)) (records.Checkpoint (next_number start old) counters)
AddsCheckpoint start by counters old new (Err refusals.Memory) = (new ≡ old) × IsUp (at old log_lock)
AddsCheckpoint start by counters old new (Err refusal) = ⊥

-- The log is forgotten before this checkpoint. Or its volume failed, and it may be so, or the log was down.
abbrev pub AddsForget : {T : Type 0} → Start → By → ℕ → List (List Entry) → List (List Entry) → Result T LogRefusal → Type 0
AddsForget start by number old new (Ok done) = new ≡ add old log_lock (forget_by by number)
AddsForget start by number old new (Err refusals.LogFault) =
    RisenCount start old log_lock (λ count. new ≡ add old log_lock (forget_fault_by by number count))
AddsForget start by number old new (Err (refusals.LogDown down)) = StaysDownAt start old new down
AddsForget start by number old new (Err refusal) = ⊥

-- A bank's pages are on disk. Or its volume failed.
abbrev pub AddsSync : {T : Type 0} → Start → By → ℕ → List (List Entry) → List (List Entry) → Result T BankRefusal → Type 0
AddsSync start by lock old new (Ok done) = new ≡ add old lock (sync_by by)
AddsSync start by lock old new (Err bank_refusals.DiskFault) =
    RisenCount start old lock (λ count. new ≡ add old lock (fault_by by count))
AddsSync start by lock old new (Err refusal) = ⊥

-- the counters that a base has behind both histories
abbrev pub counters_with : Counters → List Event → List MultiEvent → Counters
counters_with base h all =
    record (multi_counters base all) { next = next_given base.next h; oldest = oldest_id base.oldest h }

-- the numbers have the forms of an id and of multixacts
pub record HaveForms (c : Counters) : Type 0 where
  pub oldest : IsXidNumber c.oldest
  pub multi : IsFullMulti c.multi
  pub oldest_multi : IsFullMulti c.oldest_multi
