use Rattle.recoverable.proofs.Settled.{recovery_settles, refusal_keeps}
use Rattle.recoverable.proofs.laws.recoveries_settle.Goals as goal

pub returns-clause-answered : goal.returns-clause-answered
returns-clause-answered c = recovery_settles

pub returns-clause-refused : goal.returns-clause-refused
returns-clause-refused c = refusal_keeps
