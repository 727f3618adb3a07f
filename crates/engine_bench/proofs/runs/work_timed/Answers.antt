use Rattle.engine_bench.proofs.Crewing.{gone_further}
use Rattle.engine_bench.proofs.runs.work_timed.Goals as goal

pub returns : goal.returns
returns g c =
    gone_further c.args.hall.now c.args.banks c.args.members.now.items c.work_through.new.members.items c.work.new.members.items c.work_through.ensures c.work.ensures
