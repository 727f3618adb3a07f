use Rattle.std.proofs.Common.{◌≡◌, take, map}
use Rattle.place_columns.specs.declared.lines.LineAt.{LineAt}
use Rattle.place_columns.specs.Rows.{line_of}
use Rattle.place_columns.proofs.lines.steps_of.Given as goal

abbrev pub invariant-loop-row : goal.invariant-loop-row
invariant-loop-row l = l.steps.items ≡ map (λ (x : LineAt). x.step) (map line_of (take l.row-index l.rows))
