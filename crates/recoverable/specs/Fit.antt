-- Volumes from which recovery gives a clean start, as far as the log and pg_xact go.
use Rattle.std.specs.Prelude.{◌≡◌, ℕ, ◌+◌, ◌-◌, ◌%◌, ◌<◌, ◌≤◌, ◌⊎◌, List, take, length, Some, Contains}
use Rattle.std.specs.List.{slice_get}
use Rattle.tx_events.specs.Ids.{low_half}
use Rattle.store_pages.specs.Layouts.{xact_page_of}
use Rattle.disk_core.specs.Pages.{Pages}
use Rattle.tx_events.specs.declared.record.Counters.{Counters}
use Rattle.tx_events.specs.declared.record.Rec.{Rec}
use Rattle.tx_events.specs.declared.record.Rec.TheVariants as records
use Rattle.tx_events.specs.LifeBase.{LifeBase, base_after}
use Rattle.recoverable.specs.XactImages.{code_at}

-- the records of a log from one on, with the base before them, and the number below which they are on disk
pub record KeptLog : Type 0 where
  pub base : LifeBase
  pub first : ℕ
  pub recs : List Rec
  pub flushed : ℕ

-- those numbered below k, and the base that they give
abbrev pub recs_below : KeptLog → ℕ → List Rec
recs_below log k = take (k - log.first) log.recs

abbrev pub base_at : KeptLog → ℕ → LifeBase
base_at log k = base_after log.base (recs_below log k)

-- the number past the last record
abbrev pub log_end : KeptLog → ℕ
log_end log = log.first + length log.recs

-- the log may begin at this record, a checkpoint that is on disk
pub record MayBegin (log : KeptLog) (n : ℕ) : Type 0 where
  pub from : log.first ≤ n
  pub flushed : n < log.flushed
  pub counters : Counters
  pub checkpoint : slice_get log.recs (n - log.first) ≡ Some (records.Checkpoint n counters)
  pub whole : (base_at log (n + 1)).counters ≡ counters

-- committed, or committed if its parent is
abbrev pub IsCommitCode : ℕ → Type 0
IsCommitCode code = (code ≡ 1) ⊎ (code ≡ 3)

-- each id that is committed in a base reads committed, from an oldest one on
abbrev pub ShowsCommitted : ℕ → ℕ → List ℕ → ℕ → Pages → Type 0
ShowsCommitted banks bank committed oldest c = (x : ℕ) → Contains committed x → oldest ≤ x → xact_page_of x % banks ≡ bank → code_at c x ≡ 1

-- a committed or sub-committed state stands at the place of a committed id; and where it is the place of an id of the
-- window, that id is committed
pub record ShowsNoOther (banks bank : ℕ) (committed : List ℕ) (oldest next : ℕ) (c : Pages) : Type 0 where
  pub place : (x : ℕ) → xact_page_of x % banks ≡ bank → IsCommitCode (code_at c x) → (y : ℕ) × Contains committed y × (low_half y ≡ low_half x)
  pub here : (x : ℕ) → xact_page_of x % banks ≡ bank → oldest ≤ x → x < next → IsCommitCode (code_at c x) → Contains committed x

-- What a crash left of a bank of pg_xact fits a log that begins at record n.
pub record XactFits (banks bank : ℕ) (log : KeptLog) (n : ℕ) (c : Pages) : Type 0 where
  pub committed : ShowsCommitted banks bank (base_at log n).committed (base_at log log.flushed).counters.oldest c
  pub no_other : ShowsNoOther banks bank (base_at log log.flushed).committed (base_at log log.flushed).counters.oldest (base_at log (log_end log)).counters.next c
