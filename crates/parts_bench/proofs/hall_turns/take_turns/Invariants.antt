use Rattle.hall.specs.Calls.{view, IsOf}
use Rattle.parts_bench.specs.Plain.{Took}
use Rattle.parts_bench.proofs.hall_turns.take_turns.Given as goal

abbrev pub ghost-by : goal.ghost-by
ghost-by g a = record { by = a._about.now.seat.me.0.name }

abbrev pub invariant-loop-i : goal.invariant-loop-i
invariant-loop-i g l = IsOf l.hall l.member.pass × Took (view l.initial.member.pass) (view l.member.pass)
