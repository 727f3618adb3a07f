-- The volumes of a media from one life of a run to the next, through a crash.
use Rattle.std.specs.Prelude.{◌≡◌, ◌<◌, ℕ, IsSomeAnd, IsTrue, List, [], ◌∷◌, length}
use Rattle.disk_core.specs.declared.log_disk.LogDisk as logs
use Rattle.disk_core.specs.declared.page_disk.PageDisk as disks
use Rattle.disk_core.specs.declared.media.Crash.{Crash}
use Rattle.disk_core.specs.declared.media.Crash.TheVariants as crashes
use Rattle.disk_core.specs.declared.media.Volumes.{Volumes}
use Rattle.disk_core.specs.Media.{AllCrashed, HaveSameBanks, LogCrashed, PagesCrashed}
use Rattle.tx_model.specs.declared.report.How.{How}
use Rattle.tx_model.specs.declared.report.How.TheVariants as hows
use Rattle.tx_model.specs.declared.report.LifeReport.{LifeReport}
use Rattle.session_run.specs.Causes.{HaveCauses}
use Rattle.session_run.specs.Fits.{FitLife}
use Rattle.session_run.specs.Records.{BankHolds, LogHolds}
use Rattle.session_run.specs.Starts.{OpensFor}

-- the crash of a media that a script asks for
abbrev pub crash_of : How → Crash
crash_of hows.Lost = crashes.Lost
crash_of hows.Kept = crashes.Kept
crash_of hows.Torn = crashes.Torn

module _ {L P : Type 0} (l : logs.Ghosts L) (p : disks.Ghosts P) where
  -- What a life left of the volumes that it mounted: as many of each kind, and none counted fewer faults in it than any one
  -- session's commands were told of, or its checkpoints. If the volumes tell what they hold, the life began behind the last
  -- record to which the log opened; the log's has the life's records, from the first one on or from a checkpoint on, those of
  -- pg_xact say committed only of what is on disk, and they fit a log that ends with the life: so recovery may begin from
  -- whatever a crash leaves of them.
  pub record HasEndedOn (r : LifeReport) (mounted left : Volumes L P) : Type 0 where
    pub same : HaveSameBanks mounted left
    pub opened : IsTrue l.tells → OpensFor r.life.from r.life.base (l.reads mounted.log)
    pub causes : HaveCauses l p r.steps mounted left
    pub log : IsTrue l.tells → LogHolds l r.life left.log
    pub states : IsTrue p.tells → (bank : ℕ) → bank < length mounted.xact.items
        → BankHolds p r.life (length mounted.xact.items) bank left.xact.items
    pub fit : IsTrue p.tells → IsTrue l.tells → FitLife l p r.life left

module _ {L P : Type 0} (l : logs.Ghosts L) (p : disks.Ghosts P) (falls : Crash → Volumes L P → Volumes L P → Type 0) where
  -- The crash made these volumes of those. If they tell what they hold, each is one of its images then.
  pub record HasFallen (how : How) (old new : Volumes L P) : Type 0 where
    pub fell : falls (crash_of how) old new
    pub banks : HaveSameBanks old new
    pub crashed : IsTrue l.tells → IsTrue p.tells
        → AllCrashed (LogCrashed l.reads l.images l.faults) (PagesCrashed p.pages p.images p.faults) old new

  -- From volumes that were mounted first, lives that crashed come to these, which were mounted next.
  abbrev pub ComesTo : List LifeReport → Volumes L P → Volumes L P → Type 0
  ComesTo [] mounted next = next ≡ mounted
  ComesTo (r ∷ lives) mounted next =
      (left behind : Volumes L P) × HasEndedOn l p r mounted left
      × IsSomeAnd r.crash (λ how. HasFallen how left behind) × ComesTo lives behind next
