-- What a trim leaves.
use Rattle.std.specs.Prelude.{◌≡◌, ℕ, ◌+◌, ◌<◌, ◌≤◌, true, Contains, List, Result, Some, length, slice_get, take}
use Rattle.notes.specs.Lists.{at}
use Rattle.tx_events.specs.Horizon.{oldest_id, oldest_xmin}
use Rattle.tx_events.specs.Multis.{oldest_multi, oldest_offset}
use Rattle.tx_events.specs.Pages.{member_page_in_full, offset_page}
use Rattle.tx_events.specs.declared.event.By.{By}
use Rattle.tx_events.specs.declared.record.Rec.{Rec}
use Rattle.tx_events.specs.declared.record.Rec.TheVariants as records
use Rattle.tx_events.specs.declared.refusal.Lock.{Lock}
use Rattle.tx_events.specs.declared.refusal.Lock.TheVariants as locks
use Rattle.tx_events.specs.declared.refusal.Refusal.{Refusal}
use Rattle.tx_events.specs.declared.refusal.Refusal.TheVariants as refusals
use Rattle.store_pages.specs.Layouts.{multi_before, subtrans_cut_page, xact_cut_page}
use Rattle.tx_core.specs.declared.entry.Entry.{Entry}
use Rattle.tx_core.specs.declared.entry.Kind.{Kind}
use Rattle.tx_core.specs.declared.entry.Kind.TheVariants as kinds
use Rattle.tx_core.specs.declared.entry.Start.{Start}
use Rattle.tx_core.specs.Entries.{Stands, history, records_of}
use Rattle.tx_core.specs.Locks.{log_lock, members_lock, number_of, offsets_lock, subtrans_lock, xact_lock}
use Rattle.tx_core.specs.MultiEntries.{multi_history}
use Rattle.engine_parts.specs.Adding.{IsToldBy, IsTruncation, MayAddBy}
use Rattle.engine_parts.specs.Answers.{MetFault, MetLogFault}
use Rattle.engine_parts.specs.Stand.{IsDownAt}

-- what a step of a trim adds, by its result
abbrev pub MayTrim : {T : Type 0} → Result T Refusal → ℕ → Kind → Type 0
MayTrim result = MayAddBy true IsTruncation (Unit {0}) (IsToldBy result)

-- the lock is that of a bank
abbrev pub IsOfBank : Lock → Type 0
IsOfBank (locks.Xact bank) = Unit {0}
IsOfBank (locks.Subtrans bank) = Unit {0}
IsOfBank (locks.Offsets bank) = Unit {0}
IsOfBank (locks.Members bank) = Unit {0}
IsOfBank lock = ⊥

-- why a cut was refused: the volume of a bank failed
abbrev pub IsCutMet : List (List Entry) → By → Refusal → Type 0
IsCutMet lists by (refusals.DiskFault lock) = IsOfBank lock × MetFault lists (number_of lock) by
IsCutMet lists by r = ⊥

-- Why a trim was: memory was wanting, the log is full, or down, or its volume failed, or a cut was refused.
abbrev pub IsTrimMet : Start → List (List Entry) → By → Refusal → Type 0
IsTrimMet start lists by refusals.Memory = Unit {0}
IsTrimMet start lists by refusals.Full = Unit {0}
IsTrimMet start lists by refusals.LogFault =
    MetLogFault lists by × ((down : ℕ) × IsDownAt start (at lists log_lock) down)
IsTrimMet start lists by (refusals.LogDown down) = IsDownAt start (at lists log_lock) down
IsTrimMet start lists by r = IsCutMet lists by r

-- the command appended the record, which is below the number of a flush
pub record HasFlushed (start : Start) (lists : List (List Entry)) (by : By) (rec : Rec) : Type 0 where
  pub place : ℕ
  pub to : ℕ
  pub stands : slice_get (records_of lists) place ≡ Some (by, rec)
  pub past : start.from + place < to
  pub flushed : Stands lists log_lock (kinds.Flush to)

-- the oldest xmin was so at some place of the history
abbrev pub WasOldestXmin : Start → List (List Entry) → ℕ → Type 0
WasOldestXmin start lists xmin =
    (place : ℕ) × (place ≤ length (history lists)) × (xmin ≡ oldest_xmin start.base.next (take place (history lists)))

-- so at one that isn't before the end of the history in earlier lists
abbrev pub WasOldestXminSince : Start → List (List Entry) → List (List Entry) → ℕ → Type 0
WasOldestXminSince start before lists xmin =
    (place : ℕ) × (length (history before) ≤ place) × (place ≤ length (history lists))
    × (xmin ≡ oldest_xmin start.base.next (take place (history lists)))

-- the command cut the bank of this lock before this page
abbrev pub IsCutBy : List (List Entry) → By → ℕ → ℕ → Type 0
IsCutBy lists by lock page = Contains (at lists lock) (record { by = by; kind = kinds.Cut page })

-- The command cut the bank of this number in each store: what lies before these numbers was let go, of pg_xact and
-- pg_subtrans up to the last page that a life cuts.
pub record AreCut (start : Start) (lists : List (List Entry)) (by : By) (oldest xmin multi offset bank : ℕ) : Type 0 where
  pub states : IsCutBy lists by (xact_lock bank) (xact_cut_page start.base.oldest oldest)
  pub parents : IsCutBy lists by (subtrans_lock bank) (subtrans_cut_page start.base.oldest xmin)
  pub offsets : IsCutBy lists by (offsets_lock bank) (offset_page (multi_before multi))
  pub members : IsCutBy lists by (members_lock bank) (member_page_in_full offset)

-- The command's truncation is on disk. What it names isn't before what was announced when the command began, and the
-- command cut each bank of the four stores by it, pg_subtrans by an oldest xmin since then.
pub record HasTrimmed (start : Start) (before lists : List (List Entry)) (by : By) : Type 0 where
  pub place : ℕ
  pub to : ℕ
  pub oldest : ℕ
  pub multi : ℕ
  pub offset : ℕ
  pub stands : slice_get (records_of lists) place ≡ Some (by, records.Truncate oldest multi offset)
  pub past : start.from + place < to
  pub flushed : Stands lists log_lock (kinds.Flush to)
  pub id : oldest_id start.base.oldest (history before) ≤ oldest
  pub first : oldest_multi start.base.oldest_multi (multi_history before) ≤ multi
  pub begin : oldest_offset start.base.oldest_offset (multi_history before) ≤ offset
  pub xmin : ℕ
  pub was : WasOldestXminSince start before lists xmin
  pub cut : (bank : ℕ) → bank < start.banks → AreCut start lists by oldest xmin multi offset bank
