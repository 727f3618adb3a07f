-- Why a run stopped before its end.
use Rattle.std.specs.Prelude.{◌≡◌, ◌⊎◌, ℕ, Bool, IsTrue, List, [], ◌∷◌, Option, take}
use Rattle.std.specs.Io.KnownBytes.{Appends}
use Rattle.disk_core.specs.declared.log_disk.LogDisk as logs
use Rattle.disk_core.specs.declared.page_disk.PageDisk as disks
use Rattle.disk_core.specs.declared.media.Crash.{Crash}
use Rattle.disk_core.specs.declared.media.Volumes.{Volumes}
use Rattle.disk_core.specs.Faults.{HasRisen}
use Rattle.tx_model.specs.declared.report.Life.{Life}
use Rattle.tx_model.specs.declared.report.LifeReport.{LifeReport}
use Rattle.tx_model.specs.declared.report.Report.{Report}
use Rattle.report_text.specs.ReportText.{report_text}
use Rattle.session_lang.specs.declared.script.Script.{Script}
use Rattle.run_law.specs.Lives.{AreLivesBefore, RunStart, text_so_far}
use Rattle.run_law.specs.Tool.{IsReportOf}
use Rattle.recoverable.specs.Fit.{KeptLog}
use Rattle.engine_life.specs.declared.refusal.NoLife.{NoLife}
use Rattle.engine_life.specs.declared.refusal.NoLife.TheVariants as no_lives
use Rattle.engine_life.specs.Lives.{FitsLog}
use Rattle.engine_life.specs.NextLives.{StayFit}
use Rattle.engine_life.specs.Refusals.{IsOfVolumes, IsUnopened}
use Rattle.engine_life.specs.Reopening.{LeavesLog}
use Rattle.tx_io.specs.Causes.{Rose}
use Rattle.session_run.specs.declared.stop.Stopped.{Stopped}
use Rattle.session_run.specs.declared.stop.Stopped.TheVariants as stops
use Rattle.session_run.specs.Fits.{FitsLife}
use Rattle.session_run.specs.Leaves.{HaveLeft, LeavesVolumes}
use Rattle.session_run.specs.Lives.{ComesTo}
use Rattle.session_run.specs.Runs.{cluster_of}
use Rattle.session_run.specs.Starts.{BeginsOver}

-- the log isn't damaged if all volumes tell what they hold
abbrev pub IsUndamaged : {L P : Type 0} → logs.Ghosts L → disks.Ghosts P → NoLife → Type 0
IsUndamaged l p refusal = (at : ℕ) → refusal ≡ no_lives.Damaged at → IsTrue l.tells → IsTrue p.tells → ⊥

module _ {L P : Type 0} (l : logs.Ghosts L) (p : disks.Ghosts P) where
  -- What the media gives fits the log: it is such as came of the crash, or what an opening made of such that it refused, and
  -- from which a later recovery may go on.
  abbrev pub StillFit : KeptLog → (Volumes L P → Type 0) → (Volumes L P → Type 0) → Type 0
  StillFit log came gives = (new : Volumes L P) → gives new
      → (came new × FitsLog l p log new) ⊎ ((old : Volumes L P) × came old × FitsLog l p log old × LeavesLog l p old new log)

  -- But where memory was wanting nothing is said, nor where the media's count of faults rose, as at a crash that failed.
  abbrev pub StayFitBehind : KeptLog → (Volumes L P → Type 0) → ℕ → ℕ → (Volumes L P → Type 0) → NoLife → Type 0
  StayFitBehind log came before now gives no_lives.Memory = Unit {0}
  StayFitBehind log came before now gives no_lives.Device = HasRisen before now ⊎ StillFit log came gives
  StayFitBehind log came before now gives refusal = StillFit log came gives

  -- Where all volumes tell what they hold: those that the life left fit a log that ends with it, and that holds still.
  abbrev pub KeepsLog : Life → Volumes L P → (Volumes L P → Type 0) → ℕ → ℕ → (Volumes L P → Type 0) → NoLife → Type 0
  KeepsLog life left came before now gives refusal = IsTrue p.tells → IsTrue l.tells
      → (log : KeptLog) × FitsLife l p life left log × StayFitBehind log came before now gives refusal

module _ {L P : Type 0} (l : logs.Ghosts L) (p : disks.Ghosts P) (first : ℕ → Volumes L P → Type 0) (kept : KeptLog) (used : Type 0) (falls : Crash → Volumes L P → Volumes L P → Type 0) (before now : ℕ) (gives : Volumes L P → Type 0) where
  -- Behind these lives, which left those volumes, memory was wanting, the media failed, or no life was opened over the volumes
  -- to which they came: their log isn't damaged if all tell what they hold, and what the last of the lives left isn't lost.
  abbrev pub StopsBehind : Script → ℕ → RunStart → List LifeReport → NoLife → Type 0
  StopsBehind s banks start lives refusal =
      (left : Volumes L P) × (by : HaveLeft l p (BeginsOver l p first kept s banks start) falls lives left)
      × IsUnopened l p (cluster_of s) (λ banks volumes. ComesTo l p falls lives by.begun volumes) before now gives refusal
      × IsUndamaged l p refusal
      × KeepsLog l p by.last.life left (ComesTo l p falls lives by.begun) before now gives refusal

  -- Before the first life: why none was opened. If the media was used before, and its pages tell what they hold, it gives
  -- volumes that it gave, or such as fit the log if those did, but where memory was wanting.
  abbrev pub IsUnopenedFirst : Script → NoLife → Type 0
  IsUnopenedFirst s refusal =
      IsUnopened l p (cluster_of s) first before now gives refusal
      × (used → IsTrue p.tells → (refusal ≡ no_lives.Memory → ⊥) → StayFit l p kept (first s.banks) gives refusal)

  -- why a run of the script stopped behind these lives
  abbrev pub Stops : Script → ℕ → RunStart → List LifeReport → NoLife → Type 0
  Stops s banks start [] refusal = IsUnopenedFirst s refusal
  Stops s banks start (r ∷ lives) refusal = StopsBehind s banks start (r ∷ lives) refusal

-- The text of these lives of a run of the script, in whole lines: its report, or that as far as they come.
abbrev pub IsTextOfRun : Bool → ℕ → RunStart → Script → List LifeReport → List ℕ → Type 0
IsTextOfRun tells banks start s lives text =
    (let r : Report = record { names = s.names; lives = lives } in IsReportOf tells banks start s r × (text ≡ report_text r))
    ⊎ (AreLivesBefore tells banks start s lives × (text ≡ text_so_far s.names lives))

module _ {L P : Type 0} (l : logs.Ghosts L) (p : disks.Ghosts P) where
  -- A run of the script stopped where this text was to be written whole. Its last life left what the media has.
  pub record IsUnwritten (first : ℕ → Volumes L P → Type 0) (kept : KeptLog) (falls : Crash → Volumes L P → Volumes L P → Type 0) (gives : Volumes L P → Type 0) (s : Script) (text : List ℕ) : Type 0 where
    pub banks : ℕ
    pub start : RunStart
    pub lives : List LifeReport
    pub text_is : IsTextOfRun p.tells banks start s lives text
    pub leaves : LeavesVolumes l p (BeginsOver l p first kept s banks start) falls gives lives

-- a stop that comes only of volumes that were mounted, at the first opening too
abbrev pub MountsFirst : Stopped → Type 0
MountsFirst stops.Sink = Unit {0}
MountsFirst (stops.NoLife refusal) = IsOfVolumes refusal

module _ {L P : Type 0} (l : logs.Ghosts L) (p : disks.Ghosts P) (first : ℕ → Volumes L P → Type 0) (kept : KeptLog) (used : Type 0) (falls : Crash → Volumes L P → Volumes L P → Type 0) (before now : ℕ) (gives : Volumes L P → Type 0) where
  -- Why a run stopped, and what the sink holds more then: a front of the text of the run where the sink failed, with these
  -- counts of its faults, and else that of the lives before.
  abbrev pub IsStopped : Script → Option (List ℕ) → Option (List ℕ) → ℕ → ℕ → Stopped → Type 0
  IsStopped s held held' faults faults' stops.Sink =
      Rose faults faults' × (text : List ℕ) × IsUnwritten l p first kept falls gives s text × (n : ℕ) × Appends held held' (take n text)
  IsStopped s held held' faults faults' (stops.NoLife refusal) =
      (banks : ℕ) × (start : RunStart) × (lives : List LifeReport) × AreLivesBefore p.tells banks start s lives
      × Appends held held' (text_so_far s.names lives)
      × Stops l p first kept used falls before now gives s banks start lives refusal
