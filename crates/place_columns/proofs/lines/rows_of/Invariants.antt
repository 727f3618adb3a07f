use Rattle.std.proofs.Common.{◌≡◌, take, map}
use Rattle.place_columns.specs.Rows.{line_of}
use Rattle.place_columns.proofs.lines.rows_of.Given as goal

abbrev pub invariant-loop-line : goal.invariant-loop-line
invariant-loop-line l = map line_of l.rows.items ≡ take l.line-index l.lines
