-- The law: where the engine invariant holds, and values stand for their lists, the volumes fit.
use Rattle.std.specs.Prelude.{◌≡◌, ℕ, ◌+◌, ◌<◌, ◌≤◌, ◌⊎◌, Contains, List, ◌++◌, length, Option, None, IsTrue}
use Rattle.tx_events.specs.declared.event.By.{By}
use Rattle.tx_core.specs.declared.entry.Kind.{Kind}
use Rattle.tx_events.specs.Ids.{IsFullMulti}
use Rattle.disk_core.specs.Pages.{Pages}
use Rattle.tx_events.specs.Base.{IsBase}
use Rattle.tx_events.specs.Events.{given}
use Rattle.tx_events.specs.Multis.{made}
use Rattle.tx_events.specs.declared.record.Rec.{Rec}
use Rattle.tx_core.specs.MultiEntries.{multi_history}
use Rattle.tx_core.specs.declared.entry.Entry.{Entry}
use Rattle.tx_core.specs.declared.entry.Kind.TheVariants as kinds
use Rattle.tx_core.specs.declared.entry.LogCall.TheVariants as calls
use Rattle.tx_core.specs.declared.entry.Start.{Start}
use Rattle.tx_core.specs.declared.entry.State.{State}
use Rattle.tx_core.specs.CleanStart.{CleanStart}
use Rattle.tx_core.specs.EngineInvariant.{EngineInvariant}
use Rattle.tx_core.specs.Entries.{history, recs_in, Stands}
use Rattle.notes.specs.Lists.{at}
use Rattle.tx_core.specs.Locks.{log_lock, members_lock, offsets_lock, xact_lock}
use Rattle.tx_events.specs.LifeBase.{AreBelowNext, IsLifeBase, LifeBase, base_after}
use Rattle.recoverable.specs.Fit.{KeptLog, MayBegin, XactFits, base_at, log_end}
use Rattle.recoverable.specs.Volumes.{IsWholeAt, ListFits}
use Rattle.recoverable.specs.XactImages.{Follows}
use Rattle.recoverable.specs.FitMultis.{MembersFit, OffsetsFit, ShowsOffsets, offset_at}
use Rattle.recoverable.specs.MemberImages.{CleanMembers, MembersFollow}
use Rattle.recoverable.specs.OffsetImages.{ByteSince, CleanOffsets, OffsetsFollow}
use Rattle.recoverable.specs.Bytes.{ImageHasZeroTails, StoredBytes}

-- the base of a life
abbrev pub life_base : Start → LifeBase
life_base start = record { counters = start.base; committed = start.committed; recorded = start.recorded }

-- an entry of this kind stands in the list
abbrev pub HasKind : List Entry → Kind → Type 0
HasKind es kind = (by : By) × Contains es (record { by = by; kind = kind })

-- A log's records are those from before the life, which give its base, and those that the list appends. At least one is
-- from before, and all of these are on disk when the life begins; so is what the list flushed. The checkpoints from
-- before have the counters that the log gives behind them, and the multixacts that its base names lie below this base's.
pub record LogOf (start : Start) (es : List Entry) (log : KeptLog) : Type 0 where
  pub before : List Rec
  pub recs : log.recs ≡ before ++ recs_in es
  pub from : start.from ≡ log.first + length before
  pub base : base_after log.base before ≡ life_base start
  pub some : log.first < start.from
  pub whole : (n : ℕ) → log.first ≤ n → n < start.from → IsWholeAt log n
  pub below : AreBelowNext log.base
  pub begun : start.from ≤ log.flushed
  pub upto : log.flushed ≤ log_end log
  pub flushed : (to : ℕ) → HasKind es (kinds.Flush to) → to ≤ log.flushed

abbrev pub LogFollows : Start → List (List Entry) → KeptLog → Type 0
LogFollows start lists log = LogOf start (at lists log_lock) log

-- an image of the log may begin at this record: one before the life, or a checkpoint before which it was to be forgotten
abbrev pub IsBeginningOf : Start → List Entry → ℕ → Type 0
IsBeginningOf start es n =
    (n < start.from) ⊎ (HasKind es (kinds.Forget n) ⊎ ((count : ℕ) × HasKind es (kinds.LogFault (calls.Forget n) count)))

abbrev pub IsBeginning : Start → List (List Entry) → ℕ → Type 0
IsBeginning start lists n = IsBeginningOf start (at lists log_lock) n

-- Where the life's base is what a life may start from, and the pages told, so is each base that its log may give: the
-- log's list fits.
abbrev pub ListFitsLaw : Type 0
ListFitsLaw = (start : Start) (lists : List (List Entry)) (log : KeptLog) → EngineInvariant start lists → IsTrue start.told → IsFullMulti start.base.multi → IsLifeBase (life_base start) → LogFollows start lists log → ListFits log

-- A checkpoint before which the log was to be forgotten is on disk, and its counters are the log's behind it: so the
-- log may begin there.
abbrev pub MayBeginLaw : Type 0
MayBeginLaw = (start : Start) (lists : List (List Entry)) (log : KeptLog) (n : ℕ) → EngineInvariant start lists → LogFollows start lists log
    → Stands lists log_lock (kinds.Forget n) ⊎ ((count : ℕ) × Stands lists log_lock (kinds.LogFault (calls.Forget n) count))
    → MayBegin log n

-- Each image of a bank of pg_xact fits the log as it begins in any of its images, in a life of fewer than 2,900,000 ids.
abbrev pub XactFitsLaw : Type 0
XactFitsLaw = (start : Start) (lists : List (List Entry)) (shown : ℕ → Option State) (log : KeptLog) (bank n : ℕ) (c : Pages) →
    EngineInvariant start lists → CleanStart start shown → LogFollows start lists log → IsBeginning start lists n → length (given (history lists)) < 2900000
    → bank < start.banks → Follows start bank shown (at lists (xact_lock bank)) c
    → XactFits start.banks bank log n c

-- In each image of a bank of offsets each recorded multixact of the base at the log's beginning has its offset, from the
-- oldest one of the base on disk on, in a life of fewer than 2,900,000 multixacts.
abbrev pub OffsetsShownLaw : Type 0
OffsetsShownLaw = (start : Start) (lists : List (List Entry)) (shown : ℕ → Option StoredBytes) (log : KeptLog) (bank n : ℕ) (c : Pages) →
    EngineInvariant start lists → IsBase start.base → CleanOffsets start shown → LogFollows start lists log → IsBeginning start lists n → length (made (multi_history lists)) < 2900000
    → bank < start.banks → OffsetsFollow start bank shown (at lists (offsets_lock bank)) c
    → ShowsOffsets start.banks bank (base_at log n).recorded (base_at log log.flushed).counters.oldest_multi c

-- And a multixact below the next one of the checkpoint at which the log begins that isn't recorded has none: each image
-- of a bank of offsets fits the log.
abbrev pub OffsetsFitLaw : Type 0
OffsetsFitLaw = (start : Start) (lists : List (List Entry)) (shown : ℕ → Option StoredBytes) (log : KeptLog) (bank n : ℕ) (c : Pages) →
    EngineInvariant start lists → IsBase start.base → CleanOffsets start shown → LogFollows start lists log → IsBeginning start lists n → length (made (multi_history lists)) < 2900000
    → bank < start.banks → OffsetsFollow start bank shown (at lists (offsets_lock bank)) c
    → OffsetsFit start.banks bank log n c

-- Each image of a bank of members fits the log so, where the pages told the offsets of the base's multixacts.
abbrev pub MembersFitLaw : Type 0
MembersFitLaw = (start : Start) (lists : List (List Entry)) (shown : ℕ → Option StoredBytes) (log : KeptLog) (bank n : ℕ) (c : Pages) →
    EngineInvariant start lists → IsBase start.base → IsTrue start.told → CleanMembers start shown → LogFollows start lists log → IsBeginning start lists n → length (made (multi_history lists)) < 2900000
    → bank < start.banks → MembersFollow start bank shown (at lists (members_lock bank)) c → ImageHasZeroTails c
    → MembersFit start.banks bank log n c

-- A multixact of the life's base of which the start shows no offset has none in any image: the life sets none.
abbrev pub NoStrayOffset : Type 0
NoStrayOffset = (start : Start) (lists : List (List Entry)) (shown : ℕ → Option StoredBytes) (bank multi : ℕ) (c : Pages) → EngineInvariant start lists
    → shown multi ≡ None → multi < start.base.multi → ((i : ℕ) → i < 4 → ByteSince start shown (at lists (offsets_lock bank)) c multi i)
    → offset_at c multi ≡ 0
