use Rattle.std.proofs.Common.{◌≡◌, ◌++◌, None, replicate}
use Rattle.life_tables.proofs.telling.push_blanks.Given as goal

abbrev pub invariant-loop-n : goal.invariant-loop-n
invariant-loop-n l = l.lists.items ≡ l.fn.lists.items ++ replicate l._n None
