-- How a life begins over the volumes that a media gives.
use Rattle.std.specs.Prelude.{◌≡◌, ◌⊎◌, ℕ, Bool, IsSome, IsTrue, false, length}
use Rattle.disk_core.specs.declared.log_disk.LogDisk as logs
use Rattle.disk_core.specs.declared.page_disk.PageDisk as disks
use Rattle.disk_core.specs.declared.media.Volumes.{Volumes}
use Rattle.disk_core.specs.Media.{HasBanks, MayBeFirst}
use Rattle.wal_core.specs.Log.{history_on}
use Rattle.recoverable.specs.Fit.{KeptLog}
use Rattle.replay_core.specs.Refused.{IsNewLog}
use Rattle.engine_host.specs.declared.cluster.Cluster.{Cluster}
use Rattle.engine_life.specs.declared.life.OpenLife.{OpenLife}
use Rattle.engine_life.specs.Lives.{FitsLog, IsNewLife}
use Rattle.engine_life.specs.NextLives.{GoesOnLife}

-- The volumes that the next mount of so many banks may give, of a media that is new or isn't, begins so, or gives
-- those.
pub record MayMount {L P : Type 0} (is_new : Bool) (begins : ℕ → Volumes L P → Type 0) (gives : Volumes L P → Type 0) (banks : ℕ) (volumes : Volumes L P) : Type 0 where
  pub first : IsTrue is_new → MayBeFirst begins banks volumes
  pub again : is_new ≡ false → gives volumes

-- the cluster, with so many banks
abbrev pub with_banks : Cluster → ℕ → Cluster
with_banks c banks = record { base = c.base; banks = banks; sessions = c.sessions }

module _ {L P : Type 0} (l : logs.Ghosts L) (p : disks.Ghosts P) where
  -- A life may begin over these volumes: there are as many of each kind; and where pages tell what they hold, the log
  -- does, and if it has records the volumes fit this one.
  pub record MayBeginOver (kept : KeptLog) (volumes : Volumes L P) : Type 0 where
    pub banks : HasBanks (length volumes.xact.items) volumes
    pub tells : IsTrue p.tells → IsTrue l.tells
    pub fits : IsTrue p.tells → IsSome (history_on (l.reads volumes.log)) → FitsLog l p kept volumes

module _ {L P : Type 0} {l : logs.Ghosts L} {p : disks.Ghosts P} where
  -- Over a log without a record it is the life of a new cluster. Volumes that tell what they hold fit no log then.
  pub record BeginsNew (c : Cluster) (volumes : Volumes L P) (life : OpenLife L P l p) : Type 0 where
    pub opens : IsTrue l.tells → IsNewLog (l.reads volumes.log)
    pub unfit : IsTrue p.tells → (kept : KeptLog) → FitsLog l p kept volumes → ⊥
    pub new : IsNewLife c volumes life

  -- and over one with records it goes on from there
  abbrev pub IsFirstLife : KeptLog → Cluster → Volumes L P → OpenLife L P l p → Type 0
  IsFirstLife kept c volumes life = BeginsNew c volumes life ⊎ GoesOnLife kept c.sessions volumes life
