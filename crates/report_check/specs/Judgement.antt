-- Which text is that of a lawful report, and which line of another is the first unlawful one.
use Rattle.std.specs.Prelude.{◌≡◌, ℕ, ◌<◌, ◌≤◌, ◌⊎◌, List, length}
use Rattle.tx_model.specs.declared.report.Report.{Report}
use Rattle.report_text.specs.ReportText.{report_text}
use Rattle.tx_io.specs.Amounts.{most_bytes}
use Rattle.report_read.specs.Reports.{IsFirstWrong, IsReport}
use Rattle.report_law.specs.ReportLines.{IsLawfulReport, IsUnlawful}

-- the text of a lawful report
pub record IsLawfulText (bytes : List ℕ) : Type 0 where
  pub short : length bytes ≤ most_bytes
  pub report : Report
  pub is : IsReport report
  pub text : bytes ≡ report_text report
  pub lawful : IsLawfulReport report

-- the text of a report whose line n is the first that breaks its rule
pub record BreaksRule (bytes : List ℕ) (n : ℕ) : Type 0 where
  pub report : Report
  pub is : IsReport report
  pub text : bytes ≡ report_text report
  pub unlawful : IsUnlawful report n

-- Line n is the first unlawful one. Form comes before rule: where a line can't stand at its place, the first such one is
-- told, also behind one that breaks a rule. Of a text that is too long line 0 is told.
abbrev pub IsFirstUnlawful : List ℕ → ℕ → Type 0
IsFirstUnlawful bytes n =
    ((most_bytes < length bytes) × (n ≡ 0)) ⊎ ((length bytes ≤ most_bytes) × (IsFirstWrong bytes n ⊎ BreaksRule bytes n))

-- a text is lawful or has one first unlawful line, and never both
pub record IsJudgedOnce (bytes : List ℕ) : Type 0 where
  pub one : (n m : ℕ) → IsFirstUnlawful bytes n → IsFirstUnlawful bytes m → n ≡ m
  pub never_both : (n : ℕ) → IsLawfulText bytes → IsFirstUnlawful bytes n → ⊥
  pub zero : IsFirstUnlawful bytes 0 → most_bytes < length bytes
