-- What a recovery answers of volumes that fit a log, and how it leaves them.
use Rattle.std.specs.Prelude.{◌≡◌, ℕ, List, length}
use Rattle.disk_core.specs.declared.log_disk.LogDisk as logs
use Rattle.disk_core.specs.declared.page_disk.PageDisk as disks
use Rattle.tx_events.specs.declared.record.Counters.{Counters}
use Rattle.wal_core.specs.LogViews.{KeepsAll, log_disk}
use Rattle.wal_core.specs.declared.wal_log.WalLog.{WalLog}
use Rattle.recoverable.specs.Clusters.{IsLeft}
use Rattle.recoverable.specs.Fit.{KeptLog}
use Rattle.tx_events.specs.LifeBase.{LifeBase}
use Rattle.recoverable.specs.Volumes.{NotRecovered, Recovered}

module _ {L P : Type 0} (l : logs.Ghosts L) (p : disks.Ghosts P) where
  -- From volumes that fit a log recovery answers the base at this record, of which these are the counters, and leaves the
  -- volumes settled on it, as a life may begin with them.
  pub record Recovers (old : L) (xact : List P) (new : L) (xact' offsets' members' : List P) (from : ℕ) (counters : Counters) (log : KeptLog) : Type 0 where
    pub base : LifeBase
    pub counters_are : base.counters ≡ counters
    pub recovered : Recovered (length xact) log (IsLeft l p new xact' offsets' members') from base

  -- And the log that it answers keeps the list that a later recovery goes by.
  abbrev pub RecoversLog : L → List P → WalLog L l → List P → List P → List P → ℕ → Counters → KeptLog → Type 0
  RecoversLog old xact log xact' offsets' members' from counters kept =
      (is : Recovers old xact (log_disk log) xact' offsets' members' from counters kept)
      × KeepsAll is.recovered.later.first is.recovered.later.recs l.images log

  -- Where it answers an error, they fit what a later recovery may go on from.
  abbrev pub LeavesFit : List P → L → List P → List P → List P → KeptLog → Type 0
  LeavesFit xact new xact' offsets' members' log = NotRecovered (length xact) log (IsLeft l p new xact' offsets' members')
