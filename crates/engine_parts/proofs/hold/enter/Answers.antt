use Rattle.hall.specs.Calls.{view, start_of}
use Rattle.engine_parts.specs.Parts.{PartStands}
use Rattle.engine_parts.proofs.Holding.{enters, stood}
use Rattle.engine_parts.proofs.hold.enter.Goals as goal

pub returns-clause-entered : goal.returns-clause-entered
returns-clause-entered g c =
    let e = c.enter.ensures.view in
    enters PartStands (start_of c.args.hall.now) c.args.lock (view c.args.pass.now) e.0 (view c.enter.new.pass) c.enter.result c.requires.own.named e.1 e.2

pub returns-clause-stands : goal.returns-clause-stands
returns-clause-stands g c =
    let e = c.enter.ensures.view in
    stood PartStands (start_of c.args.hall.now) c.args.lock (view c.args.pass.now) e.0 (view c.enter.new.pass) c.enter.result c.requires.own.named e.1 e.2
