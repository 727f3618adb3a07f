use Rattle.std.proofs.Common.{◌≡◌, ◌++◌, map, take}
use Rattle.tx_model.specs.declared.report.Line.{Line}
use Rattle.event_rules.specs.SnapsTold.{told_lists}
use Rattle.life_tables.specs.Told.{told_of}
use Rattle.life_tables.proofs.telling.add_lists.Given as goal

abbrev pub invariant-loop-line : goal.invariant-loop-line
invariant-loop-line l = told_of l.so_far ≡ told_of l.fn.so_far ++ map (λ (x : Line). told_lists x.reply) (take l.line-index l.lines)
