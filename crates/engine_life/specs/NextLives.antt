-- How a life goes on from an earlier one, over a media, and what is left where none does.
use Rattle.std.specs.Prelude.{◌≡◌, ◌+◌, ◌⊎◌, ℕ, IsTrue, List, length}
use Rattle.disk_core.specs.declared.log_disk.LogDisk as logs
use Rattle.disk_core.specs.declared.page_disk.PageDisk as disks
use Rattle.disk_core.specs.declared.media.Volumes.{Volumes}
use Rattle.disk_core.specs.Media.{AllCrashed, LogCrashed, PagesCrashed}
use Rattle.recoverable.specs.Fit.{KeptLog}
use Rattle.recoverable.specs.Whole.{BeganRight}
use Rattle.engine_host.specs.declared.cluster.Cluster.{Cluster}
use Rattle.engine_host.specs.Counted.{AreCounted}
use Rattle.engine_host.specs.Opening.{at_gate, life_from}
use Rattle.engine_host.specs.Stores.{banks_of}
use Rattle.engine_life.specs.declared.life.OpenLife.{OpenLife}
use Rattle.engine_life.specs.declared.refusal.NoLife.{NoLife}
use Rattle.engine_life.specs.declared.refusal.NoLife.TheVariants as no_lives
use Rattle.engine_life.specs.Lives.{FitsLog, IsBegun}
use Rattle.engine_life.specs.Reopening.{IsBaseAt, LeavesLog, OpensUpTo, behind}

module _ {L P : Type 0} (l : logs.Ghosts L) (p : disks.Ghosts P) where
  -- volumes that tell what they hold fit this log
  abbrev pub MayGoOn : KeptLog → Volumes L P → Type 0
  MayGoOn kept volumes = IsTrue p.tells → IsTrue l.tells × FitsLog l p kept volumes

  -- and those that a crash leaves of them
  abbrev pub CrashGoesOn : Type 0
  CrashGoesOn = (kept : KeptLog) (old new : Volumes L P)
      → (IsTrue l.tells → IsTrue p.tells → AllCrashed (LogCrashed l.reads l.images l.faults) (PagesCrashed p.pages p.images p.faults) old new)
      → MayGoOn kept old → MayGoOn kept new

  -- what volumes became fits what a later recovery may go on from, but where memory was wanting
  abbrev pub WhenRefused : KeptLog → Volumes L P → Volumes L P → NoLife → Type 0
  WhenRefused kept old new no_lives.Memory = Unit {0}
  WhenRefused kept old new refusal = LeavesLog l p old new kept

  -- So of a media, which gave these volumes and gives those: it gives what it gave, or what became of volumes that were
  -- mounted, if these fitted the log.
  abbrev pub StayFit : KeptLog → (Volumes L P → Type 0) → (Volumes L P → Type 0) → NoLife → Type 0
  StayFit kept gave gives refusal = (new : Volumes L P) → gives new
      → gave new ⊎ ((old : Volumes L P) × gave old × (FitsLog l p kept old → WhenRefused kept old new refusal))

module _ {L P : Type 0} {l : logs.Ghosts L} {p : disks.Ghosts P} where
  -- The life goes on over these volumes. Where they tell what they hold, and so fit this log, it goes on from the base
  -- at a number of the log, from the flushed one to its end; where they don't, nothing is known of what was before.
  -- That number is the one behind the last record to which the log's volume opens, if this tells what it holds; there
  -- the life's log ends 62 bytes further, behind a batch with its checkpoint. The life begins at counts of faults that
  -- aren't below those of the volumes.
  pub record GoesOnLife (kept : KeptLog) (sessions : ℕ) (volumes : Volumes L P) (life : OpenLife L P l p) : Type 0 where
    pub number : ℕ
    pub cluster : Cluster
    pub banks : cluster.banks ≡ length volumes.xact.items
    pub sessions_are : cluster.sessions ≡ sessions
    pub base : IsTrue p.tells → IsBaseAt kept number cluster.base
    pub opened_to : IsTrue l.tells → OpensUpTo number cluster.base (l.reads volumes.log)
    pub gate : ℕ
    pub gate_is : (told : IsTrue l.tells) → gate ≡ (opened_to told).gate + 62
    pub faults : List ℕ
    pub counted : AreCounted l p volumes.log (banks_of volumes) faults
    pub begun : IsBegun cluster (life_from cluster (at_gate (behind p.tells kept number) gate) faults) life
    pub right : IsTrue p.tells → BeganRight (life_from cluster (at_gate (behind p.tells kept number) gate) faults)
