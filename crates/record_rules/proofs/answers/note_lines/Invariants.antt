use Rattle.std.proofs.Common.{◌≡◌, ◌++◌, List, length, take}
use Rattle.tx_model.specs.declared.report.Line.{Line}
use Rattle.record_rules.specs.Answered.{AreAnswers}
use Rattle.record_rules.proofs.answers.note_lines.Given as goal

abbrev pub invariant-loop-line : goal.invariant-loop-line
invariant-loop-line l = record {
  size : length l.answers ≡ 64;
  noted : (before : List Line) → AreAnswers before l.initial.answers → AreAnswers (before ++ take l.line-index l.lines) l.answers;
}
