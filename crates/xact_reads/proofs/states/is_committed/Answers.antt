use Rattle.hall.specs.Calls.{view, start_of}
use Rattle.xact_reads.proofs.Looking.{state_says}
use Rattle.xact_reads.proofs.states.is_committed.Goals as goal

pub returns-in-Ok-clause-state : goal.returns-in-Ok-clause-state
returns-in-Ok-clause-state g c told = state_says (start_of c.args.hall.now) (view c.state_of.new.caller.pass).seen c.args.x c.in-Ok.state c.says_committed.result c.says_committed.ensures (c.in-Ok.ensures.state told)
