use Rattle.std.proofs.Common.{subst, sym}
use Rattle.hall.specs.Calls.{view, start_of}
use Rattle.engine_parts.specs.Sessions.{IsAt}
use Rattle.engine_parts.proofs.Going.{at_on}
use Rattle.engine_parts.proofs.proc_hold.enter_proc.Goals as goal

pub publish_oldest-requires-clause-at : goal.publish_oldest-requires-clause-at
publish_oldest-requires-clause-at g c =
    let e = c.enter-part.ensures.entered in
    let same = c.knock.ensures.same in
    let before : IsAt (start_of c.args.hall.now) (view c.knock.new.caller.pass) c.knock.new.caller.number c.knock.new.caller.session = subst (λ t. IsAt (start_of c.args.hall.now) (view t) c.knock.new.caller.number c.knock.new.caller.session) (sym c.knock.ensures.pass)
    (subst (λ n. IsAt (start_of c.args.hall.now) (view c.args.caller.now.pass) n c.knock.new.caller.session) (sym same.1) (subst (λ s. IsAt (start_of c.args.hall.now) (view c.args.caller.now.pass) c.args.caller.now.number s) (sym same.0) c.requires.ready.at)) in
    at_on (start_of c.args.hall.now) (view c.knock.new.caller.pass) (view c.enter-part.new.pass) c.knock.new.caller.number c.knock.new.caller.session before e.learns e.kept
