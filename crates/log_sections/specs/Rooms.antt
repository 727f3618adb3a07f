-- A command that found that the log has no room for a record.
use Rattle.std.specs.Prelude.{◌≡◌, ◌⊎◌, ℕ, List, Some, slice_get, take}
use Rattle.notes.specs.Lists.{at}
use Rattle.tx_events.specs.declared.event.By.{By}
use Rattle.tx_events.specs.declared.record.Rec.{Rec}
use Rattle.tx_events.specs.declared.refusal.Refusal.{Refusal}
use Rattle.tx_events.specs.declared.refusal.Refusal.TheVariants as refusals
use Rattle.tx_events.specs.After.{after_record}
use Rattle.tx_events.specs.Base.{IsBase}
use Rattle.tx_core.specs.declared.entry.Entry.{Entry}
use Rattle.tx_core.specs.declared.entry.Start.{Start}
use Rattle.tx_core.specs.Locks.{log_lock}
use Rattle.tx_core.specs.RecordsFollow.{counters_after}
use Rattle.tx_core.specs.StaysDown.{IsUp}
use Rattle.wal_records.specs.Spelling.{IsLawful}
use Rattle.engine_parts.specs.Adding.{IsTruncation}
use Rattle.engine_parts.specs.Faults.{look_of}
use Rattle.engine_parts.specs.LogTail.{LacksRoom, tail_of}

-- A look of this command at the log found it full: by the entries before the look it wasn't down, and the record, which
-- is a lawful one, had no room behind the records that they left pending.
pub record FoundFull (start : Start) (lists : List (List Entry)) (by : By) (rec : Rec) : Type 0 where
  pub place : ℕ
  pub look : slice_get (at lists log_lock) place ≡ Some (look_of by)
  pub up : IsUp (take place (at lists log_lock))
  pub lawful : IsLawful rec
  pub full : LacksRoom (tail_of start (take place (at lists log_lock))) rec

-- where a command is refused with `Full`, it found the log so, for a record of this kind
abbrev pub MetFull : Start → List (List Entry) → By → (Rec → Type 0) → Refusal → Type 0
MetFull start lists by IsOne r = r ≡ refusals.Full → (rec : Rec) × IsOne rec × FoundFull start lists by rec

-- A look of this command found that the log couldn't take the record next: with it, if it is lawful, the counters
-- after the entries before the look would be no base.
pub record FoundNoBase (start : Start) (lists : List (List Entry)) (by : By) (rec : Rec) : Type 0 where
  pub place : ℕ
  pub look : slice_get (at lists log_lock) place ≡ Some (look_of by)
  pub no_base : IsLawful rec → IsBase (after_record (counters_after start (take place (at lists log_lock))) rec) → ⊥

-- the record is one of this kind, or a truncation's, which has to come before such a one
abbrev pub IsOneOrBefore : Start → List (List Entry) → By → (Rec → Type 0) → Rec → Type 0
IsOneOrBefore start lists by IsOne rec =
    IsOne rec ⊎ (IsTruncation rec × (own : Rec) × IsOne own × FoundNoBase start lists by own)

-- so where it appends a record of this kind, behind a truncation's where one has to come before
abbrev pub MetFullFor : Start → List (List Entry) → By → (Rec → Type 0) → Refusal → Type 0
MetFullFor start lists by IsOne = MetFull start lists by (IsOneOrBefore start lists by IsOne)
