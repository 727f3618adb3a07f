-- Volumes that fit a log: what a crash may leave of all of them at once.
use Rattle.std.specs.Prelude.{◌≡◌, ℕ, ◌+◌, ◌-◌, ◌%◌, ◌^◌, ◌<◌, ◌≤◌, ◌⊎◌, List, [], ◌∷◌, ◌++◌, length, drop, Some, Ok, slice_get}
use Rattle.store_pages.specs.Layouts.{member_page_of, word_page_of, xact_page_of}
use Rattle.tx_events.specs.Pages.{member_page_in_full}
use Rattle.tx_events.specs.declared.record.Counters.{Counters}
use Rattle.tx_events.specs.declared.record.Rec.{Rec}
use Rattle.tx_events.specs.declared.record.Rec.TheVariants as records
use Rattle.disk_core.specs.Pages.{Pages}
use Rattle.disk_core.specs.Volume.{Volume}
use Rattle.wal_core.specs.Opening.{History, next_number, opened}
use Rattle.tx_events.specs.LifeBase.{AreBelowNext, IsLifeBase, LifeBase}
use Rattle.recoverable.specs.Fit.{KeptLog, MayBegin, XactFits, base_at, log_end, recs_below}
use Rattle.recoverable.specs.Bytes.{slot_byte}
use Rattle.recoverable.specs.FitMultis.{MembersFit, OffsetsFit, member_at, offset_at}
use Rattle.recoverable.specs.XactImages.{code_at}

-- the log opens to the records from number n on, those on disk among them, and ends at a byte of the volume
pub record LogFits (log : KeptLog) (n : ℕ) (v : Volume) : Type 0 where
  pub history : History
  pub gate : ℕ
  pub opens : opened v ≡ Ok (record { history = Some history; gate = gate })
  pub within : gate < length v.bytes
  pub first : history.first ≡ n
  pub from : log.first ≤ n
  pub recs : history.recs ≡ drop (n - log.first) (recs_below log (next_number history))
  pub counters : history.counters ≡ (base_at log (next_number history)).counters
  pub flushed : log.flushed ≤ next_number history
  pub upto : next_number history ≤ log_end log

-- what a crash left of all volumes
pub record Left : Type 0 where
  pub log : Volume
  pub xact : ℕ → Pages
  pub offsets : ℕ → Pages
  pub members : ℕ → Pages

-- the log begins at a checkpoint whose counters are the log's behind it, and each page volume fits it
pub record ImageFits (banks : ℕ) (log : KeptLog) (left : Left) : Type 0 where
  pub begins : ℕ
  pub may_begin : MayBegin log begins
  pub opens : LogFits log begins left.log
  pub xact : (bank : ℕ) → bank < banks → XactFits banks bank log begins (left.xact bank)
  pub offsets : (bank : ℕ) → bank < banks → OffsetsFit banks bank log begins (left.offsets bank)
  pub members : (bank : ℕ) → bank < banks → MembersFit banks bank log begins (left.members bank)

-- a checkpoint of the list has the counters that the log gives behind it
abbrev pub IsWholeAt : KeptLog → ℕ → Type 0
IsWholeAt log n = (counters : Counters) → slice_get log.recs (n - log.first) ≡ Some (records.Checkpoint n counters)
    → (base_at log (n + 1)).counters ≡ counters

-- From what is on disk on, each prefix of the list gives what a life may start from. And wherever an image may begin,
-- what it gives is what the whole list gives. The multixacts that the base before the list names lie below its counters.
pub record ListFits (log : KeptLog) : Type 0 where
  pub from : log.first ≤ log.flushed
  pub upto : log.flushed ≤ log_end log
  pub bases : (k : ℕ) → log.flushed ≤ k → k ≤ log_end log → IsLifeBase (base_at log k)
  pub whole : (n : ℕ) → log.first ≤ n → IsWholeAt log n
  pub below : AreBelowNext log.base

-- volumes fit where each image of them does: any of the log's with any of each page volume's
pub record VolumesFit (banks : ℕ) (log : KeptLog) (images : Left → Type 0) : Type 0 where
  pub list : ListFits log
  pub each : (left : Left) → images left → ImageFits banks log left

-- the log ends with this record, which is on disk, and what a recovery answers from it is this base
pub record EndsSettled (log : KeptLog) (from : ℕ) (base : LifeBase) : Type 0 where
  pub end : log_end log ≡ from + 1
  pub flushed : from < log.flushed
  pub kept : (k : ℕ) → log.flushed ≤ k → k ≤ log_end log → base_at log k ≡ base

-- the numbers that come next, as far as a life goes
abbrev pub IsNextOf : ℕ → ℕ → Type 0
IsNextOf next x = (next ≤ x) × (x < next + 2 ^ 30)

-- What recovery leaves, beside volumes that fit: the log may begin at its last record, the checkpoint, and each page
-- volume fits it as it begins there, so that the pages show all of the base. The numbers that come next show nothing,
-- and no slot behind the page of the next offset has a mode.
pub record Restored (banks : ℕ) (log : KeptLog) (from : ℕ) (counters : Counters) (left : Left) : Type 0 where
  pub may_begin : MayBegin log from
  pub xact : (bank : ℕ) → bank < banks → XactFits banks bank log from (left.xact bank)
  pub offsets : (bank : ℕ) → bank < banks → OffsetsFit banks bank log from (left.offsets bank)
  pub members : (bank : ℕ) → bank < banks → MembersFit banks bank log from (left.members bank)
  pub no_state : (x : ℕ) → IsNextOf counters.next x → code_at (left.xact (xact_page_of x % banks)) x ≡ 0
  pub no_offset : (x : ℕ) → IsNextOf counters.multi x → offset_at (left.offsets (word_page_of x % banks)) x ≡ 0
  pub no_member : (x : ℕ) → IsNextOf counters.offset x → member_at (left.members (member_page_of x % banks)) x ≡ 0
  pub no_mode : (x : ℕ) → IsNextOf counters.offset x → member_page_in_full counters.offset < member_page_in_full x
      → slot_byte (left.members (member_page_of x % banks)) x 4 ≡ 0

-- The log that a recovery keeps of another one, of which it found the records below number k: those from its own first
-- one on, over the base that the other's records give before it, and these behind them. What was on disk stays there.
pub record KeepsUpTo (log later : KeptLog) (k : ℕ) (behind : List Rec) : Type 0 where
  pub flushed_before : log.flushed ≤ k
  pub upto : k ≤ log_end log
  pub from : log.first ≤ later.first
  pub within : later.first ≤ k
  pub base : later.base ≡ base_at log later.first
  pub recs : later.recs ≡ drop (later.first - log.first) (recs_below log k) ++ behind
  pub flushed : log.flushed ≤ later.flushed

-- the checkpoint that recovery writes behind what it found
abbrev pub checkpoint_of : ℕ → LifeBase → List Rec
checkpoint_of number base = records.Checkpoint number base.counters ∷ []

-- The contract of recovery, for volumes with these images before and after. Where it answers Ok, the log kept behind it
-- has the records that it found and one more, the checkpoint, which is on disk. And the pages are such that a life may
-- begin.
pub record Recovered (banks : ℕ) (log : KeptLog) (after : Left → Type 0) (from : ℕ) (base : LifeBase) : Type 0 where
  pub same : base_at log from ≡ base
  pub later : KeptLog
  pub keeps : KeepsUpTo log later from (checkpoint_of from base)
  pub flushed : from < later.flushed
  pub fits : VolumesFit banks later after
  pub restored : (left : Left) → after left → Restored banks later from base.counters left

-- where it answers an error: it found the records below some number, and the checkpoint stands behind them or doesn't
pub record Recovers (log later : KeptLog) : Type 0 where
  pub upto : ℕ
  pub keeps : KeepsUpTo log later upto [] ⊎ KeepsUpTo log later upto (checkpoint_of upto (base_at log upto))

pub record NotRecovered (banks : ℕ) (log : KeptLog) (after : Left → Type 0) : Type 0 where
  pub later : KeptLog
  pub recovers : Recovers log later
  pub fits : VolumesFit banks later after

-- What a later recovery answers behind one that answered Ok is the same base: so the volumes hold it, whatever records
-- of before went off the log.
abbrev pub RecoverySettles : Type 0
RecoverySettles = (log later : KeptLog) (from : ℕ) (base : LifeBase) → base_at log from ≡ base
    → KeepsUpTo log later from (checkpoint_of from base) → from < later.flushed → EndsSettled later from base

-- And behind one that answered an error it is a base that this one might have answered.
abbrev pub RefusalKeeps : Type 0
RefusalKeeps = (log later : KeptLog) (k : ℕ) → Recovers log later → ListFits later → later.flushed ≤ k
    → k ≤ log_end later → (j : ℕ) × (log.flushed ≤ j) × (j ≤ log_end log) × (base_at later k ≡ base_at log j)
