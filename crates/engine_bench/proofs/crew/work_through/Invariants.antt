use Rattle.engine_bench.specs.Crews.{HaveGoneOn}
use Rattle.engine_bench.proofs.crew.work_through.Given as goal

abbrev pub invariant-loop-plan : goal.invariant-loop-plan
invariant-loop-plan g l = HaveGoneOn l.hall l.banks l.fn.members.items l.members.items
