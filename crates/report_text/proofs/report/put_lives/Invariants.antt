use Rattle.std.proofs.Common.{◌≡◌, ◌++◌, ◌+◌, drop}
use Rattle.report_text.specs.ReportText.{lives_text}
use Rattle.report_text.proofs.report.put_lives.Given as goal

abbrev pub invariant-loop-life : goal.invariant-loop-life
invariant-loop-life l = record {
  at : l.number ≡ 1 + l.life-index;
  rest : l.out ++ lives_text l.names l.number (drop l.life-index l.lives) ≡ l.fn.out ++ lives_text l.names 1 l.lives;
}
