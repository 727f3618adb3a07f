use Rattle.std.proofs.Common.{◌≡◌, take}
use Rattle.place_columns.specs.Lined.{lines_from}
use Rattle.place_columns.proofs.lines.all_lines.Given as goal

abbrev pub invariant-loop-number : goal.invariant-loop-number
invariant-loop-number l = l.all.items ≡ lines_from 0 (take l.number l.steps)
