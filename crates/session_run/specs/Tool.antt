-- How a run of the tool ends.
use Rattle.std.specs.Prelude.{◌≡◌, ℕ, Bool, List, [], ◌∷◌, ◌++◌, ◌⊎◌, Option, codes, take}
use Rattle.std.specs.Fmt.{decimal}
use Rattle.std.specs.Io.KnownBytes.{Appends}
use Rattle.disk_core.specs.declared.log_disk.LogDisk as logs
use Rattle.disk_core.specs.declared.page_disk.PageDisk as disks
use Rattle.disk_core.specs.declared.media.Crash.{Crash}
use Rattle.disk_core.specs.declared.media.Volumes.{Volumes}
use Rattle.tx_model.specs.declared.report.LifeReport.{LifeReport}
use Rattle.report_text.specs.Words.{line_text}
use Rattle.session_lang.specs.declared.script.Script.{Script}
use Rattle.run_law.specs.Lives.{AreLivesBefore, RunStart, text_so_far}
use Rattle.run_law.specs.Tool.{IsAnswer, IsNoScript}
use Rattle.script_gen.specs.Generated.{generated}
use Rattle.script_gen.specs.declared.task.Task.{Task}
use Rattle.script_gen.specs.declared.task.Task.TheVariants as tasks
use Rattle.script_gen.specs.Summaries.{IsSummaryOf}
pub use Rattle.script_gen.specs.Tasks.{IsAccepted, IsSized, IsTask}
use Rattle.tx_io.specs.Causes.{Rose}
use Rattle.script_source.specs.declared.script.NoScript.{NoScript}
use Rattle.script_source.specs.declared.script.NoScript.TheVariants as no_scripts
use Rattle.script_source.specs.Sources.{HasScript}
use Rattle.recoverable.specs.Fit.{KeptLog}
use Rattle.engine_life.specs.declared.refusal.NoLife.{NoLife}
use Rattle.engine_life.specs.declared.refusal.NoLife.TheVariants as no_lives
use Rattle.session_run.specs.declared.ending.Ending.{Ending}
use Rattle.session_run.specs.declared.ending.Ending.TheVariants as endings
use Rattle.session_run.specs.declared.stop.Stopped.{Stopped}
use Rattle.session_run.specs.declared.stop.Stopped.TheVariants as stops
use Rattle.session_run.specs.Leaves.{LeavesVolumes}
use Rattle.session_run.specs.Starts.{BeginsOver}
use Rattle.session_run.specs.Stops.{IsUnwritten, Stops}

-- ---- what is asked for

-- This is its script: that of the source, which was read to its end, or the generated one, for which nothing is read.
abbrev pub IsScriptOf : Task → Option (List ℕ) → Option (List ℕ) → Script → Type 0
IsScriptOf tasks.Run left left' s = HasScript left left' s
IsScriptOf (tasks.Gen seed size) left left' s = (s ≡ generated seed size) × (left' ≡ left)

-- ---- how it ends

-- the line that tells at which place the log is damaged
abbrev pub damage_text : ℕ → List ℕ
damage_text at = line_text (codes "damaged" ∷ decimal at ∷ [])

module _ {L P : Type 0} (l : logs.Ghosts L) (p : disks.Ghosts P) where
  -- There was a script to run, but behind these lives, of which the text is written, the run stopped over the media: it
  -- gives such volumes first, lets them fall so, and has these counts of its faults and the volumes that it holds now.
  pub record IsUnrun (task : Task) (left left' : Option (List ℕ)) (first : ℕ → Volumes L P → Type 0) (kept : KeptLog) (used : Type 0) (falls : Crash → Volumes L P → Volumes L P → Type 0)
      (before now : ℕ) (gives : Volumes L P → Type 0) (written : List ℕ) (refusal : NoLife) : Type 0 where
    pub script : Script
    pub of : IsScriptOf task left left' script
    pub banks : ℕ
    pub start : RunStart
    pub lives : List LifeReport
    pub are : AreLivesBefore p.tells banks start script lives
    pub exact : written ≡ text_so_far script.names lives
    pub stops : Stops l p first kept used falls before now gives script banks start lives refusal

  -- What each ending says, behind what was written before its own text: of the source, before and after, with its counts
  -- of faults, and so of the media. Where the sink failed, this is the text of which a front was written.
  abbrev pub Ends : Task → Option (List ℕ) → Option (List ℕ) → ℕ → ℕ → (ℕ → Volumes L P → Type 0) → KeptLog → Type 0 → (Crash → Volumes L P → Volumes L P → Type 0)
      → ℕ → ℕ → (Volumes L P → Type 0) → List ℕ → Ending → Type 0
  Ends task left left' faults faults' first kept used falls before now gives written endings.Report =
      (task ≡ tasks.Run)
      × (answer : IsAnswer p.tells left left' written)
      × LeavesVolumes l p (BeginsOver l p first kept answer.script answer.banks answer.start) falls gives answer.report.lives
  Ends task left left' faults faults' first kept used falls before now gives written (endings.Summary text) =
      (written ≡ []) × (seed size : ℕ) × (task ≡ tasks.Gen seed size)
      × (counts : IsSummaryOf p.tells (generated seed size) text.items)
      × LeavesVolumes l p (BeginsOver l p first kept (generated seed size) counts.banks counts.start) falls gives counts.report.lives
  Ends task left left' faults faults' first kept used falls before now gives written (endings.NoScript text) =
      (written ≡ []) × (task ≡ tasks.Run) × IsNoScript left left' text.items
  Ends task left left' faults faults' first kept used falls before now gives written endings.ReadFault =
      (written ≡ []) × (task ≡ tasks.Run) × Rose faults faults'
  Ends task left left' faults faults' first kept used falls before now gives written endings.WriteFault =
      (task ≡ tasks.Run) × (s : Script) × HasScript left left' s × IsUnwritten l p first kept falls gives s written
  Ends task left left' faults faults' first kept used falls before now gives written endings.Memory =
      (written ≡ []) ⊎ IsUnrun task left left' first kept used falls before now gives written no_lives.Memory
  Ends task left left' faults faults' first kept used falls before now gives written endings.Device =
      IsUnrun task left left' first kept used falls before now gives written no_lives.Device
  Ends task left left' faults faults' first kept used falls before now gives written (endings.Damaged text) =
      (at : ℕ) × (text.items ≡ damage_text at) × IsUnrun task left left' first kept used falls before now gives written (no_lives.Damaged at)
  Ends task left left' faults faults' first kept used falls before now gives written endings.Full =
      IsUnrun task left left' first kept used falls before now gives written no_lives.Full

  -- for these words there was a script to run, but the run stopped behind this text, and the sink holds that and this line
  -- more
  abbrev pub IsUnrunBy : List (List ℕ) → Option (List ℕ) → Option (List ℕ) → (ℕ → Volumes L P → Type 0) → KeptLog → Type 0 → (Crash → Volumes L P → Volumes L P → Type 0)
      → ℕ → ℕ → (Volumes L P → Type 0) → Option (List ℕ) → Option (List ℕ) → NoLife → List ℕ → Type 0
  IsUnrunBy words left left' first kept used falls before now gives held held' refusal line =
      (task : Task) × IsTask words task × (written : List ℕ)
      × IsUnrun task left left' first kept used falls before now gives written refusal × Appends held held' (written ++ line)

  -- so where memory was wanting, also before there was a script
  abbrev pub IsMemoryLast : List (List ℕ) → Option (List ℕ) → Option (List ℕ) → (ℕ → Volumes L P → Type 0) → KeptLog → Type 0 → (Crash → Volumes L P → Volumes L P → Type 0)
      → ℕ → ℕ → (Volumes L P → Type 0) → Option (List ℕ) → Option (List ℕ) → Type 0
  IsMemoryLast words left left' first kept used falls before now gives held held' =
      Appends held held' (codes "memory" ++ 10 ∷ [])
      ⊎ IsUnrunBy words left left' first kept used falls before now gives held held' no_lives.Memory (codes "memory" ++ 10 ∷ [])

-- an ending that is neither a report nor the sink's
abbrev pub WritesLast : Ending → Type 0
WritesLast endings.Report = ⊥
WritesLast endings.WriteFault = ⊥
WritesLast ending = Unit {0}

-- the sink holds what was written, or failed, and holds a front of it
abbrev pub HasWritten : Option (List ℕ) → Option (List ℕ) → ℕ → ℕ → List ℕ → Ending → Type 0
HasWritten held held' faults faults' written endings.WriteFault = Rose faults faults' × (n : ℕ) × Appends held held' (take n written)
HasWritten held held' faults faults' written ending = Appends held held' written

-- the ending where the source gave no script
abbrev pub unread_by : NoScript → Ending
unread_by (no_scripts.Refused text) = endings.NoScript text
unread_by no_scripts.ReadFault = endings.ReadFault
unread_by no_scripts.Memory = endings.Memory

-- the ending tells why no life was opened, or that memory was wanting for that
abbrev pub TellsRefusal : NoLife → Ending → Type 0
TellsRefusal refusal endings.Report = ⊥
TellsRefusal refusal (endings.Summary text) = ⊥
TellsRefusal refusal (endings.NoScript text) = ⊥
TellsRefusal refusal endings.ReadFault = ⊥
TellsRefusal refusal endings.WriteFault = ⊥
TellsRefusal refusal endings.Memory = Unit {0}
TellsRefusal refusal endings.Device = refusal ≡ no_lives.Device
TellsRefusal refusal (endings.Damaged text) = (at : ℕ) × (text.items ≡ damage_text at) × (refusal ≡ no_lives.Damaged at)
TellsRefusal refusal endings.Full = refusal ≡ no_lives.Full

-- so why a run stopped
abbrev pub TellsStop : Stopped → Ending → Type 0
TellsStop stops.Sink ending = ending ≡ endings.WriteFault
TellsStop (stops.NoLife refusal) ending = TellsRefusal refusal ending

-- the source gave no script
abbrev pub IsUnread : Ending → Type 0
IsUnread (endings.NoScript text) = Unit {0}
IsUnread endings.ReadFault = Unit {0}
IsUnread ending = ⊥

-- the ending comes only of volumes that were mounted
abbrev pub HasMounted : Ending → Type 0
HasMounted endings.Report = Unit {0}
HasMounted (endings.Summary text) = Unit {0}
HasMounted (endings.Damaged text) = Unit {0}
HasMounted endings.Full = Unit {0}
HasMounted ending = ⊥

-- the status that the tool answers
abbrev pub status_of : Ending → ℕ
status_of endings.Report = 0
status_of (endings.Summary text) = 0
status_of (endings.NoScript text) = 1
status_of endings.ReadFault = 3
status_of endings.WriteFault = 4
status_of endings.Device = 5
status_of endings.Memory = 6
status_of (endings.Damaged text) = 7
status_of endings.Full = 9

-- the text that it writes last
abbrev pub text_of : Ending → List ℕ
text_of endings.Report = []
text_of (endings.Summary text) = text.items
text_of (endings.NoScript text) = text.items
text_of endings.ReadFault = codes "read-fault" ++ 10 ∷ []
text_of endings.WriteFault = []
text_of endings.Device = codes "device" ++ 10 ∷ []
text_of endings.Memory = codes "memory" ++ 10 ∷ []
text_of (endings.Damaged text) = text.items
text_of endings.Full = codes "log-full" ++ 10 ∷ []

-- The sink holds the summary of a run of this script more.
pub record IsWholeSummary (tells : Bool) (seed size : ℕ) (held held' : Option (List ℕ)) : Type 0 where
  pub text : List ℕ
  pub counts : IsSummaryOf tells (generated seed size) text
  pub written : Appends held held' text

module _ {L P : Type 0} (l : logs.Ghosts L) (p : disks.Ghosts P) where
  -- all that a run writes: the line that refuses its words, or what it wrote before its ending's text, and that
  abbrev pub IsWholeText : List (List ℕ) → Option (List ℕ) → Option (List ℕ) → ℕ → ℕ → (ℕ → Volumes L P → Type 0) → KeptLog → Type 0 → (Crash → Volumes L P → Volumes L P → Type 0)
      → ℕ → ℕ → (Volumes L P → Type 0) → List ℕ → Type 0
  IsWholeText words left left' faults faults' first kept used falls before now gives text =
      ((IsAccepted words → ⊥) × (text ≡ codes "words" ++ 10 ∷ []))
      ⊎ ((task : Task) × IsTask words task × (e : Ending) × (written : List ℕ)
      × Ends l p task left left' faults faults' first kept used falls before now gives written e × (text ≡ written ++ text_of e))

  -- The sink holds a front of such a text more.
  pub record HoldsFront (words : List (List ℕ)) (left left' : Option (List ℕ)) (faults faults' : ℕ)
      (first : ℕ → Volumes L P → Type 0) (kept : KeptLog) (used : Type 0) (falls : Crash → Volumes L P → Volumes L P → Type 0) (before now : ℕ) (gives : Volumes L P → Type 0) (held held' : Option (List ℕ)) : Type 0 where
    pub text : List ℕ
    pub whole : IsWholeText words left left' faults faults' first kept used falls before now gives text
    pub count : ℕ
    pub front : Appends held held' (take count text)
