-- The lines of a report, by what they say.
use Rattle.std.specs.Prelude.{ℕ, List, [], ◌∷◌, codes}
use Rattle.std.specs.Fmt.{decimal}
use Rattle.report_text.specs.Words.{line_text}
use Rattle.report_text.specs.ReportText.{life_line}
use Rattle.report_lines.specs.declared.life.Start.{Start}
use Rattle.report_lines.specs.declared.life.LogHead.{LogHead}

-- the life of this number
abbrev pub start_line : ℕ → Start → List ℕ
start_line number s = life_line number s.from s.base

abbrev pub log_line : LogHead → List ℕ
log_line l = line_text (codes "log" ∷ codes "flushed" ∷ decimal l.flushed ∷ codes "end" ∷ decimal l.end ∷ [])
