-- What is found of a report, and of a text.
use Rattle.std.specs.Prelude.{ℕ, List, Option, MatchOption}
use Rattle.tx_model.specs.declared.report.Report.{Report}
use Rattle.report_law.specs.ReportLines.{IsLawfulReport, IsUnlawful}
use Rattle.report_check.specs.Judgement.{IsFirstUnlawful, IsLawfulText}

-- it is lawful, or this line of it is the first that isn't
abbrev pub IsJudgedAs : Report → Option ℕ → Type 0
IsJudgedAs report o = MatchOption o (IsLawfulReport report) (IsUnlawful report)

abbrev pub IsTextJudgedAs : List ℕ → Option ℕ → Type 0
IsTextJudgedAs bytes o = MatchOption o (IsLawfulText bytes) (IsFirstUnlawful bytes)
