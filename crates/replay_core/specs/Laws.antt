-- What the recovery of a bank of pg_xact gives: its images fit at each moment, and the pages show the base when it is done.
use Rattle.std.specs.Prelude.{◌≡◌, ℕ, ◌+◌, ◌%◌, ◌<◌, ◌≤◌, ◌++◌, ◌^◌, List, Contains, Some}
use Rattle.tx_events.specs.Ids.{low_half}
use Rattle.disk_core.specs.Pages.{Pages}
use Rattle.store_pages.specs.Layouts.{xact_page_of}
use Rattle.tx_events.specs.declared.record.Rec.{Rec}
use Rattle.tx_events.specs.LifeBase.{LifeBase, committed_in}
use Rattle.recoverable.specs.Fit.{IsCommitCode, KeptLog, XactFits, base_at, log_end, recs_below}
use Rattle.recoverable.specs.Volumes.{checkpoint_of}
use Rattle.recoverable.specs.XactImages.{code_at}
use Rattle.replay_multis.specs.declared.share.Share.{Share}
use Rattle.replay_core.specs.Redo.{IsNamed, code_in}
use Rattle.replay_core.specs.Restore.{IsWindow, MayRestore, RestoresAll}

abbrev pub IsOn : Share → ℕ → Type 0
IsOn share x = xact_page_of x % share.banks ≡ share.bank

-- The codes on the bank's pages show a base.
pub record ShowBase (share : Share) (base : LifeBase) (code : ℕ → ℕ) : Type 0 where
  -- from the oldest id on the committed ids read committed, and only they read committed or sub-committed
  pub committed : (x : ℕ) → IsOn share x → Contains base.committed x → base.counters.oldest ≤ x → code x ≡ 1
  pub only : (x : ℕ) → IsOn share x → base.counters.oldest ≤ x → x < base.counters.next → IsCommitCode (code x) → Contains base.committed x
  -- such a code stands at the place of a committed id
  pub place : (x : ℕ) → IsOn share x → IsCommitCode (code x) → (y : ℕ) × Contains base.committed y × (low_half y ≡ low_half x)
  -- the ids that come next show nothing
  pub clean : (x : ℕ) → base.counters.next ≤ x → x < base.counters.next + 2 ^ 30 → code x ≡ 0

-- the base that a whole log gives
abbrev pub end_base : KeptLog → LifeBase
end_base log = base_at log (log_end log)

-- a log of which all records are on disk, and those from record n on
pub record IsWholeFrom (log : KeptLog) (n : ℕ) (recs : List Rec) : Type 0 where
  pub flushed : log.flushed ≡ log_end log
  pub rest : (end_base log).committed ≡ (base_at log n).committed ++ committed_in recs
  pub window : IsWindow (end_base log).counters.oldest (end_base log).counters.next
  pub below : (x : ℕ) → Contains (end_base log).committed x → x < (end_base log).counters.next

-- a map fits as an image does
abbrev pub MapFits : Share → KeptLog → ℕ → (ℕ → List ℕ) → Type 0
MapFits share log n m = XactFits share.banks share.bank log n (λ q. Some (m q))

-- what is named by these records, behind which the log gives its last base
abbrev pub IsToRedo : Share → KeptLog → List Rec → ℕ → Type 0
IsToRedo share log recs y = IsNamed share (end_base log).counters.oldest (committed_in recs) y

-- at each moment of the recovery an image fits
abbrev pub FitsWithin : Type 0
FitsWithin = (share : Share) (log : KeptLog) (n : ℕ) (recs : List Rec) (m : ℕ → List ℕ) (c d : Pages) → IsWholeFrom log n recs → MapFits share log n m → XactFits share.banks share.bank log n c
    → MayRestore (IsToRedo share log recs) (end_base log).counters.next m c d → XactFits share.banks share.bank log n d

-- and when it is done the map shows the base
abbrev pub ShowsBase : Type 0
ShowsBase = (share : Share) (log : KeptLog) (n : ℕ) (recs : List Rec) (m new : ℕ → List ℕ) → IsWholeFrom log n recs → MapFits share log n m
    → RestoresAll (IsToRedo share log recs) (end_base log).counters.next m new → ShowBase share (end_base log) (code_in new)

-- ---- the log's part

-- the log up to a record, all of it on disk
abbrev pub up_to : KeptLog → ℕ → KeptLog
up_to log k = record { base = log.base; first = log.first; recs = recs_below log k; flushed = k }

-- with the checkpoint of its last base, which may not be on disk, or is
abbrev pub with_checkpoint : KeptLog → ℕ → KeptLog
with_checkpoint log flushed = record { base = log.base; first = log.first; recs = log.recs ++ checkpoint_of (log_end log) (end_base log); flushed = flushed }

-- what fits a log fits it when it is known which of its last records were on disk
abbrev pub CutFits : Type 0
CutFits = (banks bank : ℕ) (log : KeptLog) (k n : ℕ) (c : Pages) → log.first ≤ log.flushed → log.flushed ≤ k → k ≤ log_end log → n ≤ k
    → XactFits banks bank log n c → XactFits banks bank (up_to log k) n c

-- what shows the base fits the log with the checkpoint, whether the log begins with it or before
abbrev pub CheckpointFits : Type 0
CheckpointFits = (share : Share) (log : KeptLog) (flushed n : ℕ) (c : Pages) → log_end log ≤ flushed → n ≤ log_end log
    → ShowBase share (end_base log) (code_at c) → XactFits share.banks share.bank (with_checkpoint log flushed) n c
