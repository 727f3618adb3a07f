use Rattle.std.proofs.Common.{length}
use Rattle.engine_bench.proofs.opening.let_go.Given as goal

abbrev pub decreases-loop-part : goal.decreases-loop-part
decreases-loop-part l = length l.locks.items
