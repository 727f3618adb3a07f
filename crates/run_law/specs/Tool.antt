-- What a run of the tool says.
use Rattle.std.specs.Prelude.{◌≡◌, ℕ, Bool, ◌<◌, ◌≤◌, ◌⊎◌, List, [], ◌∷◌, Option, Some, Ok, length, codes}
use Rattle.std.specs.Io.KnownBytes.{Consumes, Appends, IsAtEnd}
use Rattle.tx_model.specs.declared.report.Report.{Report}
use Rattle.script_lines.specs.declared.kind.Kind.{Kind}
use Rattle.session_lang.specs.declared.script.Script.{Script}
use Rattle.report_text.specs.ReportText.{report_text}
use Rattle.session_lang.specs.Script.{read_script}
use Rattle.run_law.specs.Lives.{AreRunLives, RunStart, parts_of}
use Rattle.run_law.specs.Refusals.{refusal_of, refusal_text}
use Rattle.run_law.specs.Turns.{IsRunnable}

-- The report of a run of the script over so many banks that begins so: a life for each part of the script, with the dumps
-- and checkpoints between the rounds. Verdicts are told where the page volumes tell what they hold.
pub record IsReportOf (tells : Bool) (banks : ℕ) (start : RunStart) (s : Script) (r : Report) : Type 0 where
  pub few : banks ≤ 16
  pub names : r.names ≡ s.names
  pub lives : AreRunLives tells banks start (parts_of s.items) r.lives

-- the one list of words that is accepted
abbrev pub IsRun : List (List ℕ) → Type 0
IsRun words = words ≡ codes "run" ∷ []

-- The source was read to its end and its bytes are a script that sessions can run, and the text is that of a report of
-- this script, over so many banks, that begins so.
pub record IsAnswer (tells : Bool) (left left' : Option (List ℕ)) (text : List ℕ) : Type 0 where
  pub bytes : List ℕ
  pub read : Consumes left left' bytes
  pub ended : IsAtEnd left'
  pub script : Script
  pub spelled : read_script bytes ≡ Ok script
  pub runnable : IsRunnable script
  pub banks : ℕ
  pub start : RunStart
  pub report : Report
  pub lawful : IsReportOf tells banks start script report
  pub exact : text ≡ report_text report

-- The sink holds such a text more.
pub record IsWholeRun (tells : Bool) (left left' held held' : Option (List ℕ)) : Type 0 where
  pub text : List ℕ
  pub answer : IsAnswer tells left left' text
  pub written : Appends held held' text

-- The source was read to its end or past the limit, its bytes are refused, and the text tells where and why.
pub record IsNoScript (left left' : Option (List ℕ)) (text : List ℕ) : Type 0 where
  pub bytes : List ℕ
  pub read : Consumes left left' bytes
  pub ended : IsAtEnd left' ⊎ (16777216 < length bytes)
  pub fault : ℕ × Kind
  pub refused : refusal_of bytes ≡ Some fault
  pub exact : text ≡ refusal_text fault

-- The sink holds such a text more.
pub record IsRefused (left left' held held' : Option (List ℕ)) : Type 0 where
  pub text : List ℕ
  pub refusal : IsNoScript left left' text
  pub written : Appends held held' text
