use Rattle.engine_bench.specs.Going.{GoesOn}
use Rattle.engine_bench.proofs.calls.run_all.Given as goal

abbrev pub invariant-loop-call : goal.invariant-loop-call
invariant-loop-call g l = GoesOn l.hall l.banks l.done l.fn.caller l.caller

abbrev pub invariant-loop : goal.invariant-loop
invariant-loop g l = GoesOn l.hall l.banks l.done l.fn.caller l.caller

abbrev pub invariant-loop-stretch : goal.invariant-loop-stretch
invariant-loop-stretch g l = GoesOn l.hall l.banks l.done l.fn.caller l.caller
