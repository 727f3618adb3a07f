use Rattle.hall.specs.Calls.{view, start_of}
use Rattle.engine_parts.specs.Adding.{IsPlain}
use Rattle.engine_parts.proofs.Unmoved.{look_adds}
use Rattle.multi_makes.proofs.Announcing.{multi_look_adds}
use Rattle.multi_makes.proofs.Going.{same_making, visited_of, visited_then, went_none}
use Rattle.multi_makes.proofs.cuts.pass_cut.Goals as goal

pub returns-clause-visited : goal.returns-clause-visited
returns-clause-visited g c =
    let hall = c.args.hall.now in
    let start = start_of hall in
    let old = c.args.caller.now in
    let u = c.read_base-base.new.caller in
    let w = c.few_given.new.caller in
    let e = c.read_base-base.ensures in
    let f = c.few_given.ensures in
    let first = visited_of hall c.args.banks IsPlain old u c.requires e.own e.ready (went_none old.number (view old.pass).seen (view u.pass).seen e.went) e.same (look_adds start (view old.pass) (view u.pass) old.number old.session IsPlain c.requires.may.ready.at (λ number. tt) tt e.section) in
    visited_then hall c.args.banks IsPlain IsPlain IsPlain old u w (same_making old.session u.session e.same.0) (λ lock kind m. m) (λ lock kind m. m) first
    (visited_of hall c.args.banks IsPlain u w first.step f.own f.ready f.went f.same (multi_look_adds start (view u.pass) (view w.pass) u.number u.session e.ready.at f.section))
