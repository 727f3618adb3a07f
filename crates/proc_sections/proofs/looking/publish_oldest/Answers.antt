use Rattle.std.proofs.Common.{List, refl, subst, sym}
use Rattle.hall.specs.Calls.{view, start_of}
use Rattle.notes.specs.Lists.{at}
use Rattle.tx_events.specs.declared.event.Event.{Event}
use Rattle.tx_events.specs.Horizon.{oldest_id}
use Rattle.tx_core.specs.Entries.{history}
use Rattle.tx_core.specs.PostsFollow.{WasShown}
use Rattle.tx_core.proofs.LastingFurther.{shown_grows}
use Rattle.tx_core.specs.Locks.{proc_lock}
use Rattle.engine_parts.specs.Sessions.{by_at}
use Rattle.engine_parts.proofs.Tabling.{proc_looks}
use Rattle.proc_sections.proofs.Looked.{Looked, looked}
use Rattle.proc_sections.proofs.looking.publish_oldest.Given.{Over}
use Rattle.proc_sections.proofs.looking.publish_oldest.Goals as goal
use Rattle.proc_sections.proofs.looking.publish_oldest.Goals.{After-leave_looked}

pub leave_looked-requires-clause-stands : goal.leave_looked-requires-clause-stands
leave_looked-requires-clause-stands g c =
    let u = c.enter_proc-held.new.caller in
    (refl, proc_looks (start_of c.args.hall.now) c.enter_proc-held.result.value (at (view u.pass).seen proc_lock) (by_at u.number u.session.levels.commands) c.enter_proc-held.ensures.stands)

looks : (g : Over) (c : After-leave_looked g) → Looked (start_of c.args.hall.now) (view c.args.caller.now.pass) (view c.enter_proc-held.new.caller.pass) (view c.leave_looked.new.caller.pass) c.args.caller.now.number c.args.caller.now.session
looks g c =
    let old = c.args.caller.now in
    let t = c.enter_proc-held.new.caller in
    looked (start_of c.args.hall.now) (view old.pass) (view t.pass) (view c.leave_looked.new.caller.pass) old.number t.number old.session t.session c.enter_proc-held.ensures.same c.requires.ready.at c.enter_proc-held.ensures.entered c.leave_looked.ensures.left

pub returns-clause-section : goal.returns-clause-section
returns-clause-section g c = (looks g c).section

pub returns-clause-went : goal.returns-clause-went
returns-clause-went g c = (looks g c).went

pub returns-clause-shown : goal.returns-clause-shown
returns-clause-shown g c =
    let start = start_of c.args.hall.now in
    let u = view c.enter_proc-held.new.caller.pass in
    let w = view c.leave_looked.new.caller.pass in
    let l = looks g c in
    subst (λ (h : List Event). WasShown start w.seen (oldest_id start.base.oldest h)) (sym l.still)
    (shown_grows start u.seen w.seen (oldest_id start.base.oldest (history u.seen)) l.grows c.enter_proc-held.ensures.entered.shown)
