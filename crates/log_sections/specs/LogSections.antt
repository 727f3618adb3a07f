-- What the critical sections of the log need, and leave.
use Rattle.std.specs.Prelude.{◌≡◌, ◌⊎◌, ℕ, ◌+◌, ◌<◌, ◌≤◌, List, Some, Result, Ok, Err, slice_get}
use Rattle.notes.specs.Lists.{at}
use Rattle.tx_events.specs.declared.event.By.{By}
use Rattle.tx_events.specs.declared.record.Rec.{Rec}
use Rattle.tx_events.specs.declared.record.Rec.TheVariants as records
use Rattle.tx_events.specs.declared.refusal.Refusal.{Refusal}
use Rattle.tx_events.specs.declared.refusal.Refusal.TheVariants as refusals
use Rattle.tx_core.specs.declared.entry.Entry.{Entry}
use Rattle.tx_core.specs.declared.entry.Kind.TheVariants as kinds
use Rattle.tx_core.specs.declared.entry.Start.{Start}
use Rattle.tx_core.specs.Entries.{Stands, records_of}
use Rattle.tx_core.specs.Laws.{StaysBase}
use Rattle.tx_core.specs.Locks.{log_lock}
use Rattle.tx_core.specs.RecordsFollow.{IsMultiAnnounced, IsOldestAnnounced}
use Rattle.wal_core.specs.declared.refusal.LogRefusal.{LogRefusal}
use Rattle.wal_core.specs.declared.refusal.LogRefusal.TheVariants as refused
use Rattle.wal_records.specs.Spelling.{IsLawful}
use Rattle.engine_parts.specs.declared.session.Session.{Session}
use Rattle.engine_parts.specs.declared.session.Stage.TheVariants as stages
pub use Rattle.engine_parts.specs.Adding.{IsAbortOf, IsCommitOf}
use Rattle.engine_parts.specs.Answers.{MetLogFault}
use Rattle.engine_parts.specs.Faults.{flush_fault_by, look_of}
use Rattle.engine_parts.specs.Holds.{Knowledge, Section}
use Rattle.engine_parts.specs.Stand.{IsDownAt}
use Rattle.log_sections.specs.declared.appending.Appended.{Appended}
use Rattle.tx_core.specs.StaysDown.{IsUp}
use Rattle.log_sections.specs.declared.appending.Appended.TheVariants as came

-- the refusal that a call answers where its log refused so; a log that was opened isn't damaged
abbrev pub IsRefusalOf : LogRefusal → Refusal → Type 0
IsRefusalOf refused.LogFault r = r ≡ refusals.LogFault
IsRefusalOf (refused.Damaged place) r = ⊥
IsRefusalOf (refused.LogDown down) r = r ≡ refusals.LogDown down
IsRefusalOf refused.Full r = r ≡ refusals.Full
IsRefusalOf refused.Memory r = r ≡ refusals.Memory

-- Why no record was appended: the log is down behind a fault of its list. Or it isn't, and is full, or memory was
-- wanting.
abbrev pub IsAppendRefused : Start → List (List Entry) → Refusal → Type 0
IsAppendRefused start lists (refusals.LogDown down) = IsDownAt start (at lists log_lock) down
IsAppendRefused start lists refusals.Full = IsUp (at lists log_lock)
IsAppendRefused start lists refusals.Memory = IsUp (at lists log_lock)
IsAppendRefused start lists _ = ⊥

-- The record stands under the number that the session's stage tells. Or the session stands as before: after the record,
-- if it is lawful, the log's counters would be no base, or the log refused it.
abbrev pub Appends : Start → List (List Entry) → Rec → Session → Session → Result Appended Refusal → Type 0
Appends start lists rec s s' (Ok (came.At number)) = s' ≡ record s { stage = stages.Logged number }
Appends start lists rec s s' (Ok came.NoBase) = (s' ≡ s) × (IsLawful rec → StaysBase start lists rec → ⊥)
Appends start lists rec s s' (Err r) = (s' ≡ s) × IsAppendRefused start lists r

-- An abort record stands, and the abort is pending. Or the session stands as before: after the record, if it is
-- lawful, the log's counters would be no base, or the log refused it.
abbrev pub TakesAbort : Start → List (List Entry) → Rec → Session → Session → Result Appended Refusal → Type 0
TakesAbort start lists rec s s' (Ok (came.At number)) = s' ≡ record s { stage = stages.Aborting }
TakesAbort start lists rec s s' (Ok came.NoBase) = (s' ≡ s) × (IsLawful rec → StaysBase start lists rec → ⊥)
TakesAbort start lists rec s s' (Err r) = (s' ≡ s) × IsAppendRefused start lists r

-- the record is a truncation's, of an oldest id and an oldest multixact that were announced
pub record IsTruncationOf (start : Start) (lists : List (List Entry)) (rec : Rec) : Type 0 where
  pub oldest : ℕ
  pub multi : ℕ
  pub offset : ℕ
  pub is : rec ≡ records.Truncate oldest multi offset
  pub id : IsOldestAnnounced start lists oldest
  pub first : IsMultiAnnounced start lists multi offset

-- the command's record stands under this number
pub record StandsUnder (start : Start) (lists : List (List Entry)) (by : By) (rec : Rec) (number : ℕ) : Type 0 where
  pub place : ℕ
  pub stands : slice_get (records_of lists) place ≡ Some (by, rec)
  pub numbered : number ≡ start.from + place

-- a record that was appended stands under the number that is told
abbrev pub IsNumbered : Start → List (List Entry) → By → Rec → Appended → Type 0
IsNumbered start lists by rec (came.At number) = StandsUnder start lists by rec number
IsNumbered start lists by rec came.NoBase = Unit {0}

-- the critical section: its entry is the record that was appended, or a look
abbrev pub AppendSection : Start → By → Rec → Knowledge → Knowledge → Result Appended Refusal → Type 0
AppendSection start by rec v w (Ok (came.At number)) =
    Section start log_lock (record { by = by; kind = kinds.Append rec }) v w
AppendSection start by rec v w (Ok came.NoBase) = Section start log_lock (look_of by) v w
AppendSection start by rec v w (Err r) = Section start log_lock (look_of by) v w

-- so that of a truncation's record, which the log can always take next
abbrev pub TruncationSection : Start → By → Rec → Knowledge → Knowledge → Result ℕ Refusal → Type 0
TruncationSection start by rec v w (Ok number) =
    Section start log_lock (record { by = by; kind = kinds.Append rec }) v w
TruncationSection start by rec v w (Err r) = Section start log_lock (look_of by) v w

-- a flush reached past this number
abbrev pub IsFlushedPast : List (List Entry) → ℕ → Type 0
IsFlushedPast lists number = (to : ℕ) × (number < to) × Stands lists log_lock (kinds.Flush to)

-- Why the log wasn't flushed past this number: its volume failed in this command, or it was down before, and either way
-- it is down behind a fault of its list, with no more on disk by then than what comes before the number.
abbrev pub IsFlushRefused : Start → List (List Entry) → By → ℕ → Refusal → Type 0
IsFlushRefused start lists by number refusals.LogFault =
    MetLogFault lists by × ((down : ℕ) × IsDownAt start (at lists log_lock) down × (down ≤ number))
IsFlushRefused start lists by number (refusals.LogDown down) = IsDownAt start (at lists log_lock) down × (down ≤ number)
IsFlushRefused start lists by number _ = ⊥

-- The critical section of a flush that was refused: its entry is the fault that the volume met, or a look where the log
-- is down.
abbrev pub FlushRefused : Start → By → Knowledge → Knowledge → Refusal → Type 0
FlushRefused start by v w refusals.LogFault = (count : ℕ) × Section start log_lock (flush_fault_by by count) v w
FlushRefused start by v w _ = Section start log_lock (look_of by) v w

-- And else the flush, or a look where one had reached past the number.
abbrev pub FlushSection : {T : Type 0} → Start → By → ℕ → Knowledge → Knowledge → Result T Refusal → Type 0
FlushSection start by number v w (Ok done) =
    ((to : ℕ) × (number < to) × Section start log_lock (record { by = by; kind = kinds.Flush to }) v w)
    ⊎ Section start log_lock (look_of by) v w
FlushSection start by number v w (Err r) = FlushRefused start by v w r
