use Rattle.std.proofs.Common.{◌-◌}
use Rattle.script_gen.proofs.Steps.{LeavesSavepoints}
use Rattle.script_gen.proofs.writer.Writer.put_savepoints.Given as goal

abbrev pub invariant-loop : goal.invariant-loop
invariant-loop l = LeavesSavepoints l.session l.count (l.count - l.counter) l.initial.self l.self
