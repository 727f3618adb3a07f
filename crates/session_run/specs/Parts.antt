-- What a life is asked for: what was run and kept of its rounds, dumps and checkpoints, and what is known of it when it is
-- over.
use Rattle.std.specs.Prelude.{◌≡◌, ℕ, ◌^◌, ◌≤◌, Bool, List, [], ◌∷◌, ◌++◌, Option, length}
use Rattle.std.specs.List.{All, filter, flat_map}
use Rattle.disk_core.specs.declared.log_disk.LogDisk as logs
use Rattle.disk_core.specs.declared.page_disk.PageDisk as disks
use Rattle.hall.specs.declared.hall.Hall.{Hall}
use Rattle.hall.specs.Calls.{start_of, view}
use Rattle.tx_model.specs.declared.report.How.{How}
use Rattle.tx_model.specs.declared.report.Life.{Life}
use Rattle.tx_model.specs.declared.report.LifeReport.{LifeReport}
use Rattle.tx_model.specs.declared.report.Step.{Step}
use Rattle.tx_model.specs.declared.report.Step.TheVariants as steps
use Rattle.tx_model.specs.Asked.{Asked, rounds_in}
use Rattle.tx_model.specs.Rounds.{AreSteps, is_round, lines_in}
use Rattle.life_law.specs.LawfulLife.{IsLawfulLife}
use Rattle.session_lang.specs.declared.script.Item.{Item}
use Rattle.session_lang.specs.Rounds.{asked_of}
use Rattle.run_law.specs.Turns.{HasFewTakers, MayRun}
use Rattle.script_rounds.specs.declared.keeper.LineKeeper as keepers
use Rattle.tx_core.specs.declared.entry.Entry.{Entry}
use Rattle.tx_core.specs.declared.entry.Start.{Start}
use Rattle.engine_parts.specs.declared.part.Part.{Part}
use Rattle.engine_parts.specs.declared.session.Session.{Session}
use Rattle.engine_host.specs.declared.host.Host.{Host}
use Rattle.session_promise.specs.Checkpoints.{AreCheckpointsTold}
use Rattle.session_promise.specs.Dumps.{AreDumpsTold}
use Rattle.session_promise.specs.Told.{ToldRound, steps_of}
use Rattle.session_run.specs.Causes.{AreCheckpointsCounted, AreOfBuilt}
use Rattle.session_run.specs.GoesOn.{GoesOn}

-- items that a life of so many sessions can run
pub record IsTakenPart (sessions : ℕ) (its : List Item) : Type 0 where
  pub items : All (MayRun sessions) its
  pub few : length its ≤ 2 ^ 24
  pub takers : HasFewTakers its

module _ {K : Type 0} (k : keepers.Ghosts K) where
  -- what is kept with these steps more
  abbrev pub with_steps : List (List ℕ) → K → List Step → K
  with_steps names kept [] = kept
  with_steps names kept (steps.Round number lines ∷ rest) =
      with_steps names (k.with_lines names (k.with_round kept number) lines) rest
  with_steps names kept (step ∷ rest) = with_steps names (k.with_step names kept step) rest

module _ {H K L P : Type 0} {l : logs.Ghosts L} {p : disks.Ghosts P} (k : keepers.Ghosts K) where
  -- The life goes on behind what was asked of it so far: its steps are the rounds, the dumps and the checkpoints of that,
  -- and they were kept behind what was kept first.
  pub record HasRun (hall : Hall H (Part L P l p) Entry Start) (host : Host L P l p) (sessions : List Session)
      (names : List (List ℕ)) (asked : List Asked) (first kept : K) : Type 0 where
    pub rounds : List ToldRound
    pub steps : List Step
    pub goes_on : GoesOn hall host sessions rounds
    pub told : AreSteps 1 asked steps
    pub rounds_are : filter is_round steps ≡ steps_of 1 rounds
    pub dumps : AreDumpsTold (start_of hall) (view host.pass).seen rounds steps
    pub checkpoints : AreCheckpointsTold (start_of hall) (view host.pass).seen rounds steps
    pub faults : AreCheckpointsCounted (start_of hall) (view host.pass).seen steps
    pub built : AreOfBuilt (start_of hall).banks steps
    pub kept_is : kept ≡ with_steps k names first steps

  -- behind so many rounds it has done this more
  abbrev pub RunsOn : Hall H (Part L P l p) Entry Start → List (List ℕ) → ℕ → List Asked
      → Host L P l p → Host L P l p → List Session → List Session → K → K → Type 0
  RunsOn hall names rounds added before after old new kept kept' =
      (asked : List Asked) (first : K)
      → length (rounds_in asked) ≡ rounds
      → HasRun hall before old names asked first kept
      → HasRun hall after new names (asked ++ added) first kept'

  -- so behind a directive that asks for something
  abbrev pub AnswersOn : Hall H (Part L P l p) Entry Start → List (List ℕ) → List Asked → Host L P l p → Host L P l p
      → List Session → K → K → Type 0
  AnswersOn hall names added before after sessions kept kept' =
      (asked : List Asked) (first : K)
      → HasRun hall before sessions names asked first kept
      → HasRun hall after sessions names (asked ++ added) first kept'

-- the report of a life with these steps, and the crash that ended it, if one did
abbrev pub report_of : Life → List Step → Option How → LifeReport
report_of life told crash = record { life = life; steps = told; crash = crash }

-- A life that was asked for these items, with these steps, is lawful, however it ended, and has no more lines than a script
-- may have.
pub record HasLived (tells : Bool) (banks : ℕ) (its : List Item) (life : Life) (told : List Step) : Type 0 where
  pub lawful : (crash : Option How) → IsLawfulLife tells banks (asked_of its) (report_of life told crash)
  pub few : length (flat_map lines_in told) ≤ 2 ^ 24
