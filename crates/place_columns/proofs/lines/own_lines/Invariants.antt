use Rattle.std.proofs.Common.{◌≡◌, take, map}
use Rattle.place_columns.specs.Rows.{own_line}
use Rattle.place_columns.proofs.lines.own_lines.Given as goal

abbrev pub invariant-loop-o : goal.invariant-loop-o
invariant-loop-o l = map own_line l.lines.items ≡ take l.o-index l.own
