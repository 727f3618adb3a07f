use Rattle.std.proofs.Common.{◌≡◌, take, map}
use Rattle.place_columns.specs.Lined.{number_of}
use Rattle.place_columns.proofs.columns.numbers_of.Given as goal

abbrev pub invariant-loop-by : goal.invariant-loop-by
invariant-loop-by l = l.numbers.items ≡ map (number_of l.table) (take l.by-index l.bys)
