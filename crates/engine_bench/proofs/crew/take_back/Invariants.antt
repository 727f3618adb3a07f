use Rattle.std.proofs.Common.{length}
use Rattle.engine_bench.proofs.Crewing.{AreComing}
use Rattle.engine_bench.proofs.crew.take_back.Given as goal

abbrev pub invariant-loop-member : goal.invariant-loop-member
invariant-loop-member g l = AreComing l.hall l.fn.host l.host l.members.items

abbrev pub decreases-loop-member : goal.decreases-loop-member
decreases-loop-member g l = length l.members.items
