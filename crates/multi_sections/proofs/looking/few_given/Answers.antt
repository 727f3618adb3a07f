use Rattle.std.proofs.Common.{◌↔◌, ◌<◌, IsTrue, List, length, subst, sym, refl, ◌∙◌}
use Rattle.hall.specs.Calls.{view, start_of}
use Rattle.notes.specs.Lists.{at}
use Rattle.tx_events.specs.declared.multi.MultiEvent.{MultiEvent}
use Rattle.tx_events.specs.Multis.{made}
use Rattle.multi_store.specs.Generator.{Generator}
use Rattle.tx_core.specs.Locks.{multi_lock}
use Rattle.engine_parts.specs.Sessions.{by_at}
use Rattle.engine_parts.specs.Stand.{MultiStands}
use Rattle.engine_parts.proofs.Multing.{multi_looks}
use Rattle.multi_sections.proofs.Generating.{is_laid, looked_multi, multis_looked}
use Rattle.multi_sections.proofs.looking.few_given.Goals as goal

pub leave_looked-requires-clause-stands : goal.leave_looked-requires-clause-stands
leave_looked-requires-clause-stands g c =
    let u = c.enter_multi-held.new.caller in
    (refl, multi_looks (start_of c.args.hall.now) c.enter_multi-held.result.value (at (view u.pass).seen multi_lock) (by_at u.number u.session.levels.commands) c.enter_multi-held.ensures.stands)

pub returns-clause-went : goal.returns-clause-went
returns-clause-went g c =
    let e = c.enter_multi-held.ensures in
    let old = c.args.caller.now in
    let t = c.enter_multi-held.new.caller in
    looked_multi (start_of c.args.hall.now) (view old.pass) (view t.pass) (view c.leave_looked.new.caller.pass) old.number old.session (by_at t.number t.session.levels.commands) c.requires.ready.at e.entered c.leave_looked.ensures.left

pub returns-clause-few : goal.returns-clause-few
returns-clause-few g c =
    let start = start_of c.args.hall.now in
    let e = c.enter_multi-held.ensures in
    let old = c.args.caller.now in
    let t = c.enter_multi-held.new.caller in
    let u = view t.pass in
    let here : MultiStands start c.deref-multis.result.now (at u.seen multi_lock) = subst (λ (l : Generator). MultiStands start l (at u.seen multi_lock)) (sym c.deref-multis.ensures) e.stands in
    let still = multis_looked start u (view c.leave_looked.new.caller.pass) (by_at t.number t.session.levels.commands) (is_laid start (view old.pass) u old.number old.session c.requires.ready.at e.entered) c.leave_looked.ensures.left in
    subst (λ (h : List MultiEvent). IsTrue c.is_few-few.result ↔ (length (made h) < 2900000)) (here.events ∙ sym still) c.is_few-few.ensures
