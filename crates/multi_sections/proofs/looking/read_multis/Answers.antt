use Rattle.std.proofs.Common.{subst, sym, refl, ap, ◌∙◌}
use Rattle.hall.specs.Calls.{view, start_of}
use Rattle.notes.specs.Lists.{at}
use Rattle.tx_events.specs.Multis.{multi_counters}
use Rattle.multi_store.specs.Generator.{Generator}
use Rattle.tx_core.specs.Locks.{multi_lock}
use Rattle.engine_parts.specs.Faults.{look_of}
use Rattle.engine_parts.specs.Sessions.{by_at, look_by}
use Rattle.engine_parts.specs.Stand.{MultiStands}
use Rattle.engine_parts.proofs.Multing.{multi_looks}
use Rattle.engine_parts.proofs.Sectioning.{same_command, section_of}
use Rattle.multi_sections.proofs.Generating.{is_laid, looked_multi, multis_looked}
use Rattle.multi_sections.proofs.looking.read_multis.Goals as goal

pub leave_looked-requires-clause-stands : goal.leave_looked-requires-clause-stands
leave_looked-requires-clause-stands g c =
    let u = c.enter_multi-held.new.caller in
    (refl, multi_looks (start_of c.args.hall.now) c.enter_multi-held.result.value (at (view u.pass).seen multi_lock) (by_at u.number u.session.levels.commands) c.enter_multi-held.ensures.stands)

pub returns-clause-section : goal.returns-clause-section
returns-clause-section g c =
    let e = c.enter_multi-held.ensures in
    let t = c.enter_multi-held.new.caller in
    let s = c.args.caller.now.session in
    let n = c.args.caller.now.number in
    section_of (start_of c.args.hall.now) (view c.args.caller.now.pass) (view t.pass) (view c.leave_looked.new.caller.pass) multi_lock (look_by t.number t.session) (look_by n s) e.entered (ap look_of (same_command n t.number s t.session e.same.1 e.same.0)) c.leave_looked.ensures.left

pub returns-clause-went : goal.returns-clause-went
returns-clause-went g c =
    let e = c.enter_multi-held.ensures in
    let old = c.args.caller.now in
    let t = c.enter_multi-held.new.caller in
    looked_multi (start_of c.args.hall.now) (view old.pass) (view t.pass) (view c.leave_looked.new.caller.pass) old.number old.session (by_at t.number t.session.levels.commands) c.requires.ready.at e.entered c.leave_looked.ensures.left

pub returns-clause-counters : goal.returns-clause-counters
returns-clause-counters g c =
    let start = start_of c.args.hall.now in
    let e = c.enter_multi-held.ensures in
    let old = c.args.caller.now in
    let t = c.enter_multi-held.new.caller in
    let u = view t.pass in
    let here : MultiStands start c.deref-multis.result.now (at u.seen multi_lock) = subst (λ (l : Generator). MultiStands start l (at u.seen multi_lock)) (sym c.deref-multis.ensures) e.stands in
    let still = multis_looked start u (view c.leave_looked.new.caller.pass) (by_at t.number t.session.levels.commands) (is_laid start (view old.pass) u old.number old.session c.requires.ready.at e.entered) c.leave_looked.ensures.left in
    c.counters-counters.ensures.value ∙ (λ j. multi_counters (here.base j) ((here.events ∙ sym still) j))
