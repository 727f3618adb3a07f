use Rattle.std.proofs.Common.{◌≡◌, ◌++◌, take, map}
use Rattle.place_columns.specs.Lined.{line_at}
use Rattle.place_columns.proofs.lines.add_lines.Given as goal

abbrev pub invariant-loop-line : goal.invariant-loop-line
invariant-loop-line l = l.all.items ≡ l.fn.all.items ++ map (line_at l.step) (take l.line-index l.lines)
