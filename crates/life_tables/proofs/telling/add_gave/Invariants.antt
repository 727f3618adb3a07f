use Rattle.std.proofs.Common.{◌≡◌, ◌++◌, map, take}
use Rattle.tx_model.specs.declared.report.Line.{Line}
use Rattle.life_tables.specs.Lives.{is_multi_reply}
use Rattle.life_tables.proofs.telling.add_gave.Given as goal

abbrev pub invariant-loop-line : goal.invariant-loop-line
invariant-loop-line l = l.gave.items ≡ l.fn.gave.items ++ map (λ (x : Line). is_multi_reply x.reply) (take l.line-index l.lines)
