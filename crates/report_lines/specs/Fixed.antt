-- The crash that a line tells.
use Rattle.std.specs.Prelude.{ℕ, List, cond, Option, Some, None}
use Rattle.std.specs.Str.{bytes_eq}
use Rattle.report_text.specs.ReportText.{crash_text}
use Rattle.tx_model.specs.declared.report.How.{How}
use Rattle.tx_model.specs.declared.report.How.TheVariants as hows

abbrev pub crash_in : List ℕ → Option How
crash_in l =
    cond (bytes_eq l (crash_text (Some hows.Lost))) (Some hows.Lost)
    (cond (bytes_eq l (crash_text (Some hows.Kept))) (Some hows.Kept)
    (cond (bytes_eq l (crash_text (Some hows.Torn))) (Some hows.Torn) None))
