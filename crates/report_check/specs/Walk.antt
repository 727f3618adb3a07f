-- The first of some lines of a report that breaks its rule.
use Rattle.std.specs.Prelude.{◌≡◌, ℕ, List, ◌∷◌, ◌++◌, Option, Some, None, length}
use Rattle.std.specs.List.{AllByRecursion}
use Rattle.report_law.specs.ReportLines.{IsLawfulAt, ReportLine}

-- the line behind n others, all of which meet their rules
pub record IsFirstBroken (lines : List ReportLine) (n : ℕ) : Type 0 where
  pub before : List ReportLine
  pub line : ReportLine
  pub rest : List ReportLine
  pub are : lines ≡ before ++ line ∷ rest
  pub number : n ≡ length before
  pub lawful : AllByRecursion IsLawfulAt before
  pub unlawful : IsLawfulAt line → ⊥

-- where one does, how many stand before it
abbrev pub IsFound : List ReportLine → Option ℕ → Type 0
IsFound lines None = AllByRecursion IsLawfulAt lines
IsFound lines (Some n) = IsFirstBroken lines n
