use Rattle.std.proofs.Common.{cond}
use Rattle.engine_bench.proofs.Steps.{then}
use Rattle.engine_bench.proofs.calls.run_all.Goals as goal

pub loop-call-preserved : goal.loop-call-preserved
loop-call-preserved g c =
    let ran = c.run-is_done in
    then c.args.hall.now c.args.banks c.one_more-done.result c.loop-call.done (cond ran.result 1 0) c.args.caller.now c.loop-call.caller ran.new.caller
    c.one_more-done.ensures c.loop-call.invariant ran.ensures
