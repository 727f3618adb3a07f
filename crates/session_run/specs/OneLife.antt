-- How a life is opened that runs a part of a script, and what it leaves.
use Rattle.std.specs.Prelude.{◌≡◌, ℕ, ◌-◌, ◌<◌, IsTrue, List}
use Rattle.disk_core.specs.declared.log_disk.LogDisk as logs
use Rattle.disk_core.specs.declared.page_disk.PageDisk as disks
use Rattle.disk_core.specs.declared.media.Volumes.{Volumes}
use Rattle.disk_core.specs.Media.{HasBanks, HaveSameBanks}
use Rattle.tx_model.specs.declared.report.Life.{Life}
use Rattle.tx_model.specs.declared.report.Step.{Step}
use Rattle.session_lang.specs.declared.script.Item.{Item}
use Rattle.script_rounds.specs.declared.keeper.LineKeeper as keepers
use Rattle.wal_core.specs.LogViews.{log_disk}
use Rattle.tx_core.specs.declared.entry.Start.{Start}
use Rattle.recoverable.specs.Whole.{BeganRight}
use Rattle.engine_host.specs.declared.cluster.Cluster.{Cluster}
use Rattle.engine_host.specs.Counted.{AreCounted}
use Rattle.engine_host.specs.Opening.{Beginning, life_from}
use Rattle.engine_host.specs.Stores.{banks_of}
use Rattle.engine_life.specs.declared.closed.ClosedLife.{ClosedLife}
use Rattle.engine_life.specs.declared.life.OpenLife.{OpenLife}
use Rattle.engine_life.specs.Lives.{IsBegun, life_told, number_of, volumes_left}
use Rattle.session_run.specs.Causes.{HaveCauses}
use Rattle.session_run.specs.Fits.{FitLife}
use Rattle.session_run.specs.Parts.{HasLived, with_steps}
use Rattle.session_run.specs.Records.{BankHolds, LogHolds}
use Rattle.session_run.specs.Turns.{AreToldBy}

module _ {L P : Type 0} {l : logs.Ghosts L} {p : disks.Ghosts P} where
  -- The life began so over these volumes, at counts of faults that aren't below theirs. Where the volumes tell what they
  -- hold, its base is one from which a life may start.
  pub record IsOpened (c : Cluster) (b : Beginning) (faults : List ℕ) (volumes : Volumes L P) (life : OpenLife L P l p) : Type 0 where
    pub banks : HasBanks c.banks volumes
    pub counted : AreCounted l p volumes.log (banks_of volumes) faults
    pub begun : IsBegun c (life_from c b faults) life
    pub right : IsTrue p.tells → BeganRight (life_from c b faults)
    pub told : AreToldBy p.tells (life_from c b faults)

  -- it is one of so many sessions
  pub record MayRunIn (sessions : ℕ) (life : OpenLife L P l p) : Type 0 where
    pub cluster : Cluster
    pub begins : Beginning
    pub faults : List ℕ
    pub mounted : Volumes L P
    pub sessions_are : cluster.sessions ≡ sessions
    pub opened : IsOpened cluster begins faults mounted life

-- the life that started so and left this
abbrev pub life_over : {L P : Type 0} → {l : logs.Ghosts L} → Start → ClosedLife L P l → Life
life_over start closed = life_told (start.from - 1) start.base start.committed start.recorded closed.events closed.multis.value.events closed.log

-- the life that began so and left this
abbrev pub life_of : {L P : Type 0} → {l : logs.Ghosts L} → Cluster → Beginning → ClosedLife L P l → Life
life_of c b closed = life_told b.number c.base b.committed b.recorded closed.events closed.multis.value.events closed.log

module _ {L P : Type 0} (l : logs.Ghosts L) (p : disks.Ghosts P) where
  -- What a closed life leaves on its volumes, where it began so over those that were mounted: as many of each kind, each of
  -- which has counted its faults. If they tell what they hold, the log's volume has the life's records, those of pg_xact say
  -- committed only of what is on disk, and they fit a log that ends with the life.
  pub record HasLeft (c : Cluster) (b : Beginning) (mounted : Volumes L P) (steps : List Step) (closed : ClosedLife L P l) : Type 0 where
    pub log : IsTrue l.tells → LogHolds l (life_of c b closed) (log_disk closed.log)
    pub states : IsTrue p.tells → (bank : ℕ) → bank < c.banks
        → BankHolds p (life_of c b closed) c.banks bank (volumes_left closed).xact.items
    pub same : HaveSameBanks mounted (volumes_left closed)
    pub fit : IsTrue p.tells → IsTrue l.tells
        → FitLife l p (life_of c b closed) (volumes_left closed)
    pub causes : HaveCauses l p steps mounted (volumes_left closed)

module _ {K L P : Type 0} (l : logs.Ghosts L) (p : disks.Ghosts P) (k : keepers.Ghosts K) where
  -- The life that began so ran these items, was lawful, and was kept behind what was kept first.
  pub record HasRunLife (c : Cluster) (b : Beginning) (mounted : Volumes L P) (names : List (List ℕ)) (its : List Item) (first kept : K) (closed : ClosedLife L P l) : Type 0 where
    pub steps : List Step
    pub lived : HasLived p.tells c.banks its (life_of c b closed) steps
    pub kept_is : kept ≡ with_steps k names first steps
    pub number : number_of closed ≡ b.number
    pub left : HasLeft l p c b mounted steps closed
