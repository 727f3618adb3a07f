-- A media on which a run was done, handed to a next one.
use Rattle.std.specs.Prelude.{ℕ, IsTrue, List, ◌∷◌, ◌++◌}
use Rattle.disk_core.specs.declared.log_disk.LogDisk as logs
use Rattle.disk_core.specs.declared.page_disk.PageDisk as disks
use Rattle.disk_core.specs.declared.media.Crash.{Crash}
use Rattle.disk_core.specs.declared.media.Volumes.{Volumes}
use Rattle.tx_model.specs.declared.report.LifeReport.{LifeReport}
use Rattle.tx_model.specs.declared.report.Report.{Report}
use Rattle.report_law.specs.Lives.{GoOn}
use Rattle.session_lang.specs.declared.script.Script.{Script}
use Rattle.run_law.specs.Lives.{BeginsRun, RunStart}
use Rattle.run_law.specs.Tool.{IsReportOf}
use Rattle.recoverable.specs.Fit.{KeptLog}
use Rattle.engine_life.specs.FirstLives.{MayBeginOver}
use Rattle.session_run.specs.Leaves.{LeavesVolumes}
use Rattle.session_run.specs.Starts.{BeginsOver, StartsBehind}

module _ {L P : Type 0} (l : logs.Ghosts L) (p : disks.Ghosts P) where
  -- There is a log with which the next run may begin over what this one left. Where pages tell what they hold, the lives of a
  -- run that begins behind it go on from this one's, so all are of one log.
  pub record RunsOn (gives : Volumes L P → Type 0) (r : Report) : Type 0 where
    pub kept : KeptLog
    pub may : (volumes : Volumes L P) → gives volumes → MayBeginOver l p kept volumes
    pub go_on : IsTrue p.tells → (log : L) (start : RunStart) (next : LifeReport) (more : List LifeReport)
        → StartsBehind l p kept log start → BeginsRun start next.life → GoOn (next ∷ more) → GoOn (r.lives ++ next ∷ more)

  -- so behind every run with such a report, over volumes that might be handed to it
  abbrev pub RunsGoOn : (ℕ → Volumes L P → Type 0) → (Crash → Volumes L P → Volumes L P → Type 0) → (Volumes L P → Type 0) → Type 0
  RunsGoOn may falls gives =
      (old : KeptLog) (banks : ℕ) (start : RunStart) (s : Script) (r : Report)
      → ((n : ℕ) (volumes : Volumes L P) → may n volumes → MayBeginOver l p old volumes)
      → IsReportOf p.tells banks start s r
      → LeavesVolumes l p (BeginsOver l p may old s banks start) falls gives r.lives → RunsOn gives r
