use Rattle.engine_bench.specs.Crews.{Worked}
use Rattle.engine_bench.proofs.crew.run_member.Given as goal

abbrev pub invariant-loop-turn : goal.invariant-loop-turn
invariant-loop-turn g l = Worked l.hall l.banks l.fn.member l.member
