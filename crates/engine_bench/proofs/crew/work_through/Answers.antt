use Rattle.std.proofs.Common.{refl}
use Rattle.engine_bench.proofs.Crewing.{gone_further}
use Rattle.engine_bench.proofs.crew.work_through.Goals as goal

pub loop-plan-init : goal.loop-plan-init
loop-plan-init g c = record { each = c.requires; numbers = refl }

pub loop-plan-preserved : goal.loop-plan-preserved
loop-plan-preserved g c =
    gone_further c.args.hall.now c.args.banks c.args.members.now.items c.loop-plan.members.items c.work.new.members.items c.loop-plan.invariant c.work.ensures
