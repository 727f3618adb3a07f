use Rattle.std.proofs.Common.{arith, ◌+◌, ◌-◌}
use Rattle.script_gen.proofs.Steps.{savepoints_step}
use Rattle.script_gen.proofs.writer.Writer.put_savepoints.Goals as goal

pub loop-preserved : goal.loop-preserved
loop-preserved c =
    savepoints_step c.args.session c.args.count (c.args.count - c.loop.counter) (c.args.count - (c.loop.counter + 1)) c.args.self.now c.loop.self c.put_savepoint.new.self
    c.loop.invariant (omega arith) c.in_ok-put_savepoint.ensures
