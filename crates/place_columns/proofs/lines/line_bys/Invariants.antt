use Rattle.std.proofs.Common.{◌≡◌, take}
use Rattle.place_columns.specs.Lined.{bys_of}
use Rattle.place_columns.proofs.lines.line_bys.Given as goal

abbrev pub invariant-loop-line : goal.invariant-loop-line
invariant-loop-line l = l.bys.items ≡ bys_of (take l.line-index l.lines)
