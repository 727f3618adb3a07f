-- What the summary of a run says.
use Rattle.std.specs.Prelude.{◌≡◌, ℕ, Bool, List, [], ◌∷◌}
use Rattle.tx_model.specs.declared.report.LifeReport.{LifeReport}
use Rattle.tx_model.specs.declared.report.Report.{Report}
use Rattle.session_lang.specs.declared.script.Script.{Script}
use Rattle.run_law.specs.Lives.{RunStart}
use Rattle.run_law.specs.Tool.{IsReportOf}
use Rattle.script_gen.specs.Counts.{life_summary, summary_text}

-- The text tells the counts of a report of the script, over so many banks, that begins so and has one life: what its history
-- and its replies come to.
pub record IsSummaryOf (tells : Bool) (s : Script) (text : List ℕ) : Type 0 where
  pub banks : ℕ
  pub start : RunStart
  pub report : Report
  pub lawful : IsReportOf tells banks start s report
  pub life : LifeReport
  pub one : report.lives ≡ life ∷ []
  pub exact : text ≡ summary_text (life_summary life)
