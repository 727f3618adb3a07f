-- A run as it goes on from life to life.
use Rattle.std.specs.Prelude.{◌≡◌, ℕ, ◌+◌, ◌⊎◌, IfOk, IsTrue, List, [], ◌∷◌, ◌++◌, Option, None, Some, Result, Ok, Err, length, take}
use Rattle.std.specs.List.{flat_map}
use Rattle.std.specs.Io.KnownBytes.{Appends}
use Rattle.disk_core.specs.declared.log_disk.LogDisk as logs
use Rattle.disk_core.specs.declared.page_disk.PageDisk as disks
use Rattle.disk_core.specs.declared.media.Crash.{Crash}
use Rattle.disk_core.specs.declared.media.Volumes.{Volumes}
use Rattle.disk_core.specs.Images.{Only}
use Rattle.disk_core.specs.Media.{HasBanks}
use Rattle.tx_events.specs.Ids.{IsFullMulti}
use Rattle.tx_events.specs.declared.record.Counters.{Counters}
use Rattle.tx_model.specs.declared.report.How.{How}
use Rattle.tx_model.specs.declared.report.Life.{Life}
use Rattle.tx_model.specs.declared.report.LifeReport.{LifeReport}
use Rattle.tx_model.specs.declared.report.Step.{Step}
use Rattle.life_law.specs.LawfulLife.{IsLawfulLife}
use Rattle.report_law.specs.Lives.{GoesBehind, base_of}
use Rattle.report_text.specs.ReportText.{step_text}
use Rattle.session_lang.specs.declared.script.Item.{Item}
use Rattle.session_lang.specs.declared.script.Script.{Script}
use Rattle.session_lang.specs.Rounds.{asked_of}
use Rattle.run_law.specs.Lives.{AreRunLives, IsFrontOf, LifePart, RunStart, last_text, life_rest, text_so_far}
use Rattle.recoverable.specs.Fit.{KeptLog}
use Rattle.engine_host.specs.declared.cluster.Cluster.{Cluster}
use Rattle.engine_host.specs.Opening.{Beginning, life_from}
use Rattle.engine_life.specs.declared.closed.ClosedLife.{ClosedLife}
use Rattle.engine_life.specs.declared.life.OpenLife.{OpenLife}
use Rattle.engine_life.specs.declared.refusal.NoLife.{NoLife}
use Rattle.engine_life.specs.declared.refusal.NoLife.TheVariants as no_lives
use Rattle.engine_life.specs.FirstLives.{IsFirstLife, with_banks}
use Rattle.engine_life.specs.Lives.{FitsLog, number_of, volumes_left}
use Rattle.engine_life.specs.Refusals.{IsUnopened}
use Rattle.session_run.specs.OneLife.{HasLeft, IsOpened, life_of}
use Rattle.session_run.specs.Parts.{HasLived, report_of}
use Rattle.tx_io.specs.Causes.{Rose}
use Rattle.session_run.specs.declared.run.Lived.{Lived}
use Rattle.session_run.specs.declared.stop.Stopped.{Stopped}
use Rattle.session_run.specs.declared.stop.Stopped.TheVariants as stops
use Rattle.script_rounds.specs.declared.life_text.LifeText.{LifeText}
use Rattle.session_run.specs.Leaves.{HasLeftLast}
use Rattle.session_run.specs.Lives.{ComesTo, HasFallen}
use Rattle.session_run.specs.Starts.{OpensFor}
use Rattle.session_run.specs.Runs.{cluster_of}
use Rattle.session_run.specs.Stops.{IsUndamaged, KeepsLog}

module _ {L P : Type 0} (l : logs.Ghosts L) (p : disks.Ghosts P) where
  -- A life that began so, with this base, ran its part of the script and is over, and this is the text of its steps.
  pub record HasRunPartOf (names : List (List ℕ)) (its : List Item) (c : Cluster) (b : Beginning) (mounted : Volumes L P) (closed : ClosedLife L P l) (base : Counters) (text : List ℕ) : Type 0 where
    pub steps : List Step
    pub lived : HasLived p.tells c.banks its (life_of c b closed) steps
    pub left : HasLeft l p c b mounted steps closed
    pub number : number_of closed ≡ b.number
    pub base_is : base ≡ c.base
    pub text_is : text ≡ flat_map (step_text names) steps

  -- so it did where memory sufficed for that text
  pub record IsLived (names : List (List ℕ)) (its : List Item) (c : Cluster) (b : Beginning) (faults : List ℕ) (mounted : Volumes L P) (lived : Lived L P l) : Type 0 where
    pub start_is : lived.ended.start.value ≡ life_from c b faults
    pub over : IfOk lived.steps (HasRunPartOf names its c b mounted lived.ended.closed lived.base)

  -- A life that began so ran its part of the script, and this is its text.
  pub record IsToldLife (names : List (List ℕ)) (its : List Item) (number : ℕ) (crash : Option How) (c : Cluster) (b : Beginning) (mounted : Volumes L P) (closed : ClosedLife L P l) (text : LifeText) : Type 0 where
    pub steps : List Step
    pub lived : HasLived p.tells c.banks its (life_of c b closed) steps
    pub left : HasLeft l p c b mounted steps closed
    pub front : IsFrontOf number b.number c.base text.front
    pub rest : text.steps ++ (text.histories ++ text.log) ≡ life_rest names (report_of (life_of c b closed) steps crash)
    pub multis : IsFullMulti c.base.multi × IsFullMulti c.base.oldest_multi

  -- Its text was written, or a front of it where the sink failed, or nothing where memory was wanting for it.
  abbrev pub IsWritten : {T : Type 0} → List (List ℕ) → List Item → ℕ → Option How → Cluster → Beginning → Volumes L P → ClosedLife L P l → Option (List ℕ) → Option (List ℕ) → ℕ → ℕ → Result T Stopped → Type 0
  IsWritten names its number crash c b mounted closed held held' faults faults' (Ok x) =
      (text : LifeText) × IsToldLife names its number crash c b mounted closed text × Appends held held' (text.front ++ (text.steps ++ (text.histories ++ text.log)))
  IsWritten names its number crash c b mounted closed held held' faults faults' (Err stops.Sink) =
      Rose faults faults' × (text : LifeText) × IsToldLife names its number crash c b mounted closed text × (n : ℕ) × Appends held held' (take n (text.front ++ (text.steps ++ (text.histories ++ text.log))))
  IsWritten names its number crash c b mounted closed held held' faults faults' (Err (stops.NoLife refusal)) =
      (refusal ≡ no_lives.Memory) × Appends held held' []

  -- The crash fell, and a life is open over what it left, in so many banks. If the pages tell what they hold, the log does, and
  -- the volumes fit the log that they fitted before.
  pub record HasGoneOn (falls : Crash → Volumes L P → Volumes L P → Type 0) (how : How) (kept : KeptLog) (c : Cluster) (banks : ℕ) (left : Volumes L P) (life : OpenLife L P l p) : Type 0 where
    pub tells : IsTrue p.tells → IsTrue l.tells
    pub mounted : Volumes L P
    pub fallen : HasFallen l p falls how left mounted
    pub banks_are : HasBanks banks mounted
    pub fits : IsTrue p.tells → FitsLog l p kept mounted
    pub goes : IsFirstLife kept (with_banks c banks) mounted life

  -- why none goes on
  abbrev pub IsCrashed : Cluster → (Crash → Volumes L P → Volumes L P → Type 0) → How → ℕ → ℕ → Volumes L P → (Volumes L P → Type 0) → NoLife → Type 0
  IsCrashed c falls how before now left gives refusal =
      IsUnopened l p c (λ banks volumes. HasFallen l p falls how left volumes) before now gives refusal × IsUndamaged l p refusal

module _ {L P : Type 0} {l : logs.Ghosts L} {p : disks.Ghosts P} where
  -- The script was run as far as these parts, and their lives were these. The next life is open, over the volumes to which
  -- they came from those that were mounted first, so many banks. The first one begins as the run does; a later one goes on from
  -- where the log of the one before it can be read: each behind the last record to which the log opens.
  pub record IsRunning (s : Script) (banks : ℕ) (start : RunStart) (begun : Volumes L P) (falls : Crash → Volumes L P → Volumes L P → Type 0) (done : List LifePart) (lives : List LifeReport) (life : OpenLife L P l p) : Type 0 where
    pub are : AreRunLives p.tells banks start done lives
    pub cluster : Cluster
    pub begins : Beginning
    pub faults : List ℕ
    pub mounted : Volumes L P
    pub banks_are : cluster.banks ≡ banks
    pub sessions : cluster.sessions ≡ length s.names
    pub opened : IsOpened cluster begins faults mounted life
    pub comes : ComesTo l p falls lives begun mounted
    pub opens : IsTrue l.tells → OpensFor begins.number cluster.base (l.reads mounted.log)
    pub first : lives ≡ [] → (begins.number ≡ start.number)
        × (record { counters = cluster.base; committed = begins.committed; recorded = begins.recorded } ≡ start.base)
    pub behind : IsTrue p.tells → (life : Life) → life.from ≡ begins.number
        → base_of life ≡ record { counters = cluster.base; committed = begins.committed; recorded = begins.recorded } → GoesBehind lives life

abbrev pub part_of : List Item → Option How → LifePart
part_of its crash = record { items = its; crash = crash }

module _ {L P : Type 0} (l : logs.Ghosts L) (p : disks.Ghosts P) where
  -- A part of the script was run behind these, with this text, and left these volumes.
  pub record IsPartTold (s : Script) (banks : ℕ) (start : RunStart) (begun : Volumes L P) (falls : Crash → Volumes L P → Volumes L P → Type 0) (done : List LifePart) (lives : List LifeReport) (part : LifePart) (r : LifeReport) (left : Volumes L P) : Type 0 where
    pub are : AreRunLives p.tells banks start (done ++ part ∷ []) (lives ++ r ∷ [])
    pub lawful : IsLawfulLife p.tells banks (asked_of part.items) r
    pub crash_is : r.crash ≡ part.crash
    pub text : List ℕ
    pub exact : text_so_far s.names lives ++ text ≡ text_so_far s.names (lives ++ r ∷ []) ++ last_text part.crash
    pub last : HasLeftLast l p begun falls lives r left

  -- The run stopped at a part. Where the sink failed it holds a front of the part's text, and the media has what the life left; where
  -- memory was wanting for that text nothing of it was written.
  abbrev pub PartStopped : Script → ℕ → RunStart → Volumes L P → (Crash → Volumes L P → Volumes L P → Type 0) → List LifePart → List LifeReport → LifePart → Option (List ℕ) → Option (List ℕ) → ℕ → ℕ
      → ℕ → ℕ → (Volumes L P → Type 0) → Stopped → Type 0
  PartStopped s banks start begun falls done lives part held held' faults faults' before now gives stops.Sink =
      Rose faults faults' × (r : LifeReport) × (left : Volumes L P)
      × (told : IsPartTold s banks start begun falls done lives part r left) × (n : ℕ) × Appends held held' (take n told.text) × Only left gives
  PartStopped s banks start begun falls done lives part held held' faults faults' before now gives (stops.NoLife refusal) =
      ((refusal ≡ no_lives.Memory) × Appends held held' [])
      ⊎ ((how : How) × (part.crash ≡ Some how) × (r : LifeReport) × (left : Volumes L P)
      × (told : IsPartTold s banks start begun falls done lives part r left) × Appends held held' told.text
      × IsCrashed l p (cluster_of s) falls how before now left gives refusal
      × KeepsLog l p r.life left (HasFallen l p falls how left) before now gives refusal)

  -- A life of a script ran these items behind these lives, and is over: the life of this number.
  pub record HasRunPart (falls : Crash → Volumes L P → Volumes L P → Type 0) (names : List (List ℕ)) (number : ℕ) (lived : Lived L P l) : Type 0 where
    pub script : Script
    pub banks : ℕ
    pub start : RunStart
    pub begun : Volumes L P
    pub done : List LifePart
    pub lives : List LifeReport
    pub its : List Item
    pub names_are : names ≡ script.names
    pub count : number ≡ length lives + 1
    pub life : OpenLife L P l p
    pub running : IsRunning script banks start begun falls done lives life
    pub is : IsLived l p names its running.cluster running.begins running.faults running.mounted lived

  module _ {falls : Crash → Volumes L P → Volumes L P → Type 0} {names : List (List ℕ)} {number : ℕ} {lived : Lived L P l} (ran : HasRunPart falls names number lived) where
    -- its report, with the crash that ended it, if one did
    abbrev pub TellsPart : Option How → LifeReport → Type 0
    TellsPart crash r = IsPartTold ran.script ran.banks ran.start ran.begun falls ran.done ran.lives (part_of ran.its crash) r (volumes_left lived.ended.closed)

    -- It was the last one.
    abbrev pub LastWent : Option (List ℕ) → Option (List ℕ) → (Volumes L P → Type 0) → Type 0
    LastWent held held' gives =
        (r : LifeReport) × (told : TellsPart None r) × Appends held held' told.text × Only (volumes_left lived.ended.closed) gives

    -- It crashed, and the next life is open.
    abbrev pub NextWent : How → Option (List ℕ) → Option (List ℕ) → OpenLife L P l p → Type 0
    NextWent how held held' life =
        (r : LifeReport) × (told : TellsPart (Some how) r) × Appends held held' told.text
        × IsRunning ran.script ran.banks ran.start ran.begun falls (ran.done ++ part_of ran.its (Some how) ∷ []) (ran.lives ++ r ∷ []) life

    -- The run stopped.
    abbrev pub StopsPart : Option How → Option (List ℕ) → Option (List ℕ) → ℕ → ℕ → ℕ → ℕ → (Volumes L P → Type 0) → Stopped → Type 0
    StopsPart crash held held' faults faults' before now gives stop =
        PartStopped ran.script ran.banks ran.start ran.begun falls ran.done ran.lives (part_of ran.its crash) held held' faults faults' before now gives stop
