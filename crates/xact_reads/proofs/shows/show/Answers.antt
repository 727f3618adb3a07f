use Rattle.hall.specs.Calls.{view, start_of}
use Rattle.engine_parts.specs.Adding.{IsPlain}
use Rattle.engine_parts.specs.Sessions.{by_at}
use Rattle.engine_parts.proofs.Adding.{adds_nothing}
use Rattle.engine_parts.proofs.Unmoved.{at_same}
use Rattle.xact_reads.proofs.Looking.{hides, shows_state}
use Rattle.xact_reads.proofs.shows.show.Goals as goal

pub returns-in-Hidden-clause-adds : goal.returns-in-Hidden-clause-adds
returns-in-Hidden-clause-adds g c =
    let old = c.args.caller.now in
    adds_nothing (by_at old.number old.session.levels.commands) IsPlain (view old.pass).seen

pub returns-in-Hidden-clause-shown : goal.returns-in-Hidden-clause-shown
returns-in-Hidden-clause-shown g c told =
    let old = c.args.caller.now in
    hides (start_of c.args.hall.now) (view old.pass) old.number old.session c.args.name.now c.requires.glanced.0 c.args.glance c.requires.ready.at c.requires.glanced.1 c.in-Hidden.is

pub returns-in-Ok-clause-shown : goal.returns-in-Ok-clause-shown
returns-in-Ok-clause-shown g c told =
    let old = c.args.caller.now in
    let w = c.is_committed.new.caller in
    let e = c.in-Ok.ensures in
    let start = start_of c.args.hall.now in
    shows_state start (view w.pass) old.number old.session c.args.name.now c.requires.glanced.0 c.args.glance (at_same start (view w.pass) old.number w.number old.session w.session e.same.1 e.same.0 e.ready) c.requires.glanced.1 c.in-Ok.committed c.in-Seen.is (e.state told)
