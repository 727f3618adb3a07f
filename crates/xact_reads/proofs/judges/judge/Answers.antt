use Rattle.hall.specs.Calls.{view, start_of}
use Rattle.xact_reads.proofs.Limits.{registered_limits}
use Rattle.xact_reads.proofs.Replying.{named_at}
use Rattle.xact_reads.proofs.judges.judge.Goals as goal

pub glance_at-found-requires-clause-limits : goal.glance_at-found-requires-clause-limits
glance_at-found-requires-clause-limits g c =
    let u = c.args.caller.now in
    let k = c.in-Some.registered.now in
    let a = c.requires.ready.at in
    registered_limits (start_of c.args.hall.now).base _ u.number k a.base a.kept.events.legal (named_at (start_of c.args.hall.now) (view u.pass) u.number u.session c.args.name.now k a c.in-Some.ensures.found).0
