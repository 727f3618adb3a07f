-- The endings of a run.
use Rattle.std.proofs.Common.{◌≡◌, ◌⊎◌, ℕ, List, [], Option, ap, length, refl, sym, subst, ◌∙◌, arith, inl, inr}
use Rattle.std.proofs.KnownBytes.{Appends-nil}
use Rattle.std.specs.Io.KnownBytes.{Appends}
use Rattle.disk_core.specs.declared.log_disk.LogDisk as logs
use Rattle.disk_core.specs.declared.page_disk.PageDisk as disks
use Rattle.disk_core.specs.declared.media.Crash.{Crash}
use Rattle.disk_core.specs.declared.media.Volumes.{Volumes}
use Rattle.tx_model.specs.declared.report.Report.{Report}
use Rattle.report_text.specs.ReportText.{report_text}
use Rattle.session_lang.specs.declared.script.Script.{Script}
use Rattle.run_law.specs.Tool.{IsReportOf, IsRun}
use Rattle.script_gen.specs.Generated.{generated}
use Rattle.script_gen.specs.Laws.{MayRunWhole}
use Rattle.script_gen.specs.Summaries.{IsSummaryOf}
use Rattle.script_gen.specs.Words.{IsGen}
use Rattle.script_gen.proofs.GenWords.{gen_few}
use Rattle.script_source.specs.declared.script.NoScript.{NoScript}
use Rattle.script_source.specs.declared.script.NoScript.TheVariants as no_scripts
use Rattle.script_source.specs.Sources.{HasScript, IsNoScriptOf}
use Rattle.recoverable.specs.Fit.{KeptLog}
use Rattle.engine_life.specs.declared.refusal.NoLife.{NoLife}
use Rattle.engine_life.specs.declared.refusal.NoLife.TheVariants as no_lives
use Rattle.session_run.specs.declared.ending.Ending.{Ending}
use Rattle.session_run.specs.declared.ending.Ending.TheVariants as endings
use Rattle.script_gen.specs.declared.task.Task.{Task}
use Rattle.script_gen.specs.declared.task.Task.TheVariants as tasks
use Rattle.session_run.specs.Leaves.{LeavesVolumes}
use Rattle.session_run.specs.Runs.{IsTakenAlone}
use Rattle.session_run.specs.Tool.{Ends, HasWritten, IsScriptOf, IsSized, IsTask, IsUnread, IsUnrun, TellsRefusal, TellsStop, WritesLast, unread_by}
use Rattle.run_law.specs.Lives.{RunStart, new_start, text_so_far}
use Rattle.session_run.specs.declared.stop.Stopped.{Stopped}
use Rattle.session_run.specs.declared.stop.Stopped.TheVariants as stops
use Rattle.session_run.specs.Starts.{BeginsOver}
use Rattle.session_run.specs.Stops.{IsStopped, IsUnopenedFirst}
use Rattle.session_run.proofs.LivesRun.{none_before, then_memory}

-- ---- what is asked for

-- a generated script is no longer than one that is read
pub is_sized : (words : List (List ℕ)) (task : Task) → IsTask words task → IsSized task
is_sized words tasks.Run is = tt
is_sized words (tasks.Gen seed size) is = gen_few words seed size is

-- and it is one that a new cluster can run
pub is_taken : (seed size : ℕ) → MayRunWhole seed size → IsTakenAlone (generated seed size)
is_taken seed size may = record {
  taken = record {
    runnable = may.runnable;
    banks = let four = may.banks in (omega (arith, four), omega (arith, four));
    few = may.few;
  };
  items = may.items;
}

-- the words of `gen` aren't those of `run`
pub run_not_gen : (words : List (List ℕ)) (seed size : ℕ) → IsRun words → IsGen words seed size → ⊥
run_not_gen words seed size run gen = let two = ap length (sym run ∙ gen.words_are) in omega (arith, two)

pub run_asked : (words : List (List ℕ)) (task : Task) → IsTask words task → task ≡ tasks.Run → IsRun words
run_asked words task is run = subst (IsTask words) run is

pub gen_by : (words : List (List ℕ)) (task : Task) (seed size : ℕ) → IsTask words task → task ≡ tasks.Gen seed size → IsGen words seed size
gen_by words task seed size is gen = subst (IsTask words) gen is

-- ---- how it ends

module _ {L P : Type 0} (l : logs.Ghosts L) (p : disks.Ghosts P) where
  -- the script ran, and this is its report
  pub answers : (left left' held held' : Option (List ℕ)) (faults faults' now now' : ℕ) (s : Script) (first : ℕ → Volumes L P → Type 0) (kept : KeptLog) (used : Type 0) (falls : Crash → Volumes L P → Volumes L P → Type 0) (before after : ℕ) (gives : Volumes L P → Type 0) → HasScript left left' s
      → (banks : ℕ) × (start : RunStart) × (r : Report) × IsReportOf p.tells banks start s r × Appends held held' (report_text r) × LeavesVolumes l p (BeginsOver l p first kept s banks start) falls gives r.lives
      → (written : List ℕ) × Ends l p tasks.Run left left' faults faults' first kept used falls before after gives written endings.Report × HasWritten held held' now now' written endings.Report
  answers left left' held held' faults faults' now now' s first kept used falls before after gives h r = (
    report_text r.2,
    (
      refl,
      record {
        bytes = h.bytes;
        read = h.read;
        ended = h.ended;
        script = s;
        spelled = h.spelled;
        runnable = h.runnable;
        banks = r.0;
        start = r.1;
        report = r.2;
        lawful = r.3;
        exact = refl;
      },
      r.5,
    ),
    r.4,
  )

  -- so the generated script
  pub summed : (seed size : ℕ) (s : Script) (text : List ℕ) (first : ℕ → Volumes L P → Type 0) (kept : KeptLog) (used : Type 0) (falls : Crash → Volumes L P → Volumes L P → Type 0) (gives : Volumes L P → Type 0) → s ≡ generated seed size
      → ((counts : IsSummaryOf p.tells s text) × LeavesVolumes l p (BeginsOver l p first kept s counts.banks counts.start) falls gives counts.report.lives)
      → (n k : ℕ) × (tasks.Gen seed size ≡ tasks.Gen n k) × (counts : IsSummaryOf p.tells (generated n k) text) × LeavesVolumes l p (BeginsOver l p first kept (generated n k) counts.banks counts.start) falls gives counts.report.lives
  summed seed size s text first kept used falls gives same r =
      let t = subst (λ (z : Script). (counts : IsSummaryOf p.tells z text) × LeavesVolumes l p (BeginsOver l p first kept z counts.banks counts.start) falls gives counts.report.lives) same r in
      (seed, size, refl, t.0, t.1)

  pub unread_ends : (left left' held : Option (List ℕ)) (faults faults' now : ℕ) (first : ℕ → Volumes L P → Type 0) (kept : KeptLog) (used : Type 0) (falls : Crash → Volumes L P → Volumes L P → Type 0) (before after : ℕ) (gives : Volumes L P → Type 0) (refusal : NoScript) → IsNoScriptOf left left' faults faults' refusal
      → (written : List ℕ) × Ends l p tasks.Run left left' faults faults' first kept used falls before after gives written (unread_by refusal) × HasWritten held held now now written (unread_by refusal)
  unread_ends left left' held faults faults' now first kept used falls before after gives (no_scripts.Refused text) k = ([], (refl, refl, k), Appends-nil held)
  unread_ends left left' held faults faults' now first kept used falls before after gives no_scripts.ReadFault k = ([], (refl, refl, k), Appends-nil held)
  unread_ends left left' held faults faults' now first kept used falls before after gives no_scripts.Memory k = ([], inl refl, Appends-nil held)

  -- a run that stopped
  module _ (task : Task) (left left' : Option (List ℕ)) (faults faults' : ℕ) (first : ℕ → Volumes L P → Type 0) (kept : KeptLog) (used : Type 0) (falls : Crash → Volumes L P → Volumes L P → Type 0) (before now : ℕ) (gives : Volumes L P → Type 0) (written : List ℕ) where
    abbrev Unrun : NoLife → Type 0
    Unrun refusal = IsUnrun l p task left left' first kept used falls before now gives written refusal

    pub unopened_ends : (refusal : NoLife) (e : Ending) → TellsRefusal refusal e → ((refusal ≡ no_lives.Memory → ⊥) → Unrun refusal) → ((written ≡ []) ⊎ Unrun no_lives.Memory) → Ends l p task left left' faults faults' first kept used falls before now gives written e
    unopened_ends refusal endings.Report t u m = absurd t
    unopened_ends refusal (endings.Summary text) t u m = absurd t
    unopened_ends refusal (endings.NoScript text) t u m = absurd t
    unopened_ends refusal endings.ReadFault t u m = absurd t
    unopened_ends refusal endings.WriteFault t u m = absurd t
    unopened_ends refusal endings.Memory t u m = m
    unopened_ends refusal endings.Device t u m = subst Unrun t (u (λ e. absurd (let q : no_lives.Device ≡ no_lives.Memory = sym t ∙ e in cc)))
    unopened_ends refusal (endings.Damaged text) t u m = (t.0, t.1, subst Unrun t.2 (u (λ e. absurd (let q : no_lives.Damaged t.0 ≡ no_lives.Memory = sym t.2 ∙ e in cc))))
    unopened_ends refusal endings.Full t u m = subst Unrun t (u (λ e. absurd (let q : no_lives.Full ≡ no_lives.Memory = sym t ∙ e in cc)))

  -- what was written before
  written_by : (held held' : Option (List ℕ)) (faults faults' : ℕ) (written : List ℕ) (refusal : NoLife) (e : Ending) → TellsRefusal refusal e → Appends held held' written → HasWritten held held' faults faults' written e
  written_by held held' faults faults' written refusal endings.WriteFault t a = absurd t
  written_by held held' faults faults' written refusal e t a = a

  pub stopped_ends : (left left' held held' : Option (List ℕ)) (faults faults' sink sink' : ℕ) (first : ℕ → Volumes L P → Type 0) (kept : KeptLog) (used : Type 0) (falls : Crash → Volumes L P → Volumes L P → Type 0) (before now : ℕ) (gives : Volumes L P → Type 0) (s : Script) → HasScript left left' s → (stop : Stopped) (e : Ending) → TellsStop stop e
      → IsStopped l p first kept used falls before now gives s held held' sink sink' stop → (written : List ℕ) × Ends l p tasks.Run left left' faults faults' first kept used falls before now gives written e × HasWritten held held' sink sink' written e
  stopped_ends left left' held held' faults faults' sink sink' first kept used falls before now gives s h stops.Sink e t k =
      subst (λ (d : Ending). (written : List ℕ) × Ends l p tasks.Run left left' faults faults' first kept used falls before now gives written d × HasWritten held held' sink sink' written d) (sym t)
      (k.1, (refl, s, h, k.2), (k.0, k.3, k.4))
  stopped_ends left left' held held' faults faults' sink sink' first kept used falls before now gives s h (stops.NoLife refusal) e t k =
      let written = text_so_far s.names k.2 in (
        written,
        unopened_ends tasks.Run left left' faults faults' first kept used falls before now gives written refusal e t
            (λ other. record { script = s; of = h; banks = k.0; start = k.1; lives = k.2; are = k.3; exact = refl; stops = k.5 })
            (inr (record { script = s; of = h; banks = k.0; start = k.1; lives = k.2; are = k.3; exact = refl; stops = then_memory l p s first kept used falls before now gives k.0 k.1 k.2 refusal k.5 })),
        written_by held held' sink sink' written refusal e t k.4,
      )

  pub alone_ends : (task : Task) (left left' : Option (List ℕ)) (faults faults' : ℕ) (first : ℕ → Volumes L P → Type 0) (kept : KeptLog) (used : Type 0) (falls : Crash → Volumes L P → Volumes L P → Type 0) (before now : ℕ) (gives : Volumes L P → Type 0) (s : Script) → IsScriptOf task left left' s
      → (refusal : NoLife) (e : Ending) → TellsRefusal refusal e → IsUnopenedFirst l p first kept used falls before now gives s refusal → Ends l p task left left' faults faults' first kept used falls before now gives [] e
  alone_ends task left left' faults faults' first kept used falls before now gives s of refusal e t u =
      unopened_ends task left left' faults faults' first kept used falls before now gives [] refusal e t
      (λ other. record { script = s; of = of; banks = s.banks; start = new_start s; lives = []; are = none_before p.tells s.banks (new_start s) s; exact = refl; stops = u }) (inl refl)

  -- a generated script is not refused
  pub generated_is_read : (seed size : ℕ) (left left' : Option (List ℕ)) (faults faults' : ℕ) (first : ℕ → Volumes L P → Type 0) (kept : KeptLog) (used : Type 0) (falls : Crash → Volumes L P → Volumes L P → Type 0) (before now : ℕ) (gives : Volumes L P → Type 0) (written : List ℕ) (e : Ending) → Ends l p (tasks.Gen seed size) left left' faults faults' first kept used falls before now gives written e → IsUnread e → ⊥
  generated_is_read seed size left left' faults faults' first kept used falls before now gives written (endings.NoScript text) k u = absurd (let e : tasks.Gen seed size ≡ tasks.Run = k.1 in cc)
  generated_is_read seed size left left' faults faults' first kept used falls before now gives written endings.ReadFault k u = absurd (let e : tasks.Gen seed size ≡ tasks.Run = k.1 in cc)
  generated_is_read seed size left left' faults faults' first kept used falls before now gives written e k u = u

-- ---- the text that comes last

-- an ending that tells of a refusal has one, behind which nothing was written
pub refusal_last : (refusal : NoLife) (e : Ending) → TellsRefusal refusal e → WritesLast e
refusal_last refusal endings.Report t = t
refusal_last refusal endings.WriteFault t = t
refusal_last refusal e t = tt

pub last_written : (held : Option (List ℕ)) (faults : ℕ) (e : Ending) → WritesLast e → HasWritten held held faults faults [] e
last_written held faults endings.Report w = absurd w
last_written held faults endings.WriteFault w = absurd w
last_written held faults e w = Appends-nil held

-- the source was read
pub stopped_read : (stop : Stopped) (e : Ending) → TellsStop stop e → IsUnread e → ⊥
stopped_read stops.Sink e t u = subst IsUnread t u
stopped_read (stops.NoLife refusal) (endings.NoScript text) t u = t
stopped_read (stops.NoLife refusal) endings.ReadFault t u = t
stopped_read (stops.NoLife refusal) e t u = u
