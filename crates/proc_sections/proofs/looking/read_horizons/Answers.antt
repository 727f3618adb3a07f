use Rattle.engine_parts.specs.Stand.{ProcStands}
use Rattle.std.proofs.Common.{subst, sym, refl, ◌∙◌}
use Rattle.hall.specs.Calls.{view, start_of}
use Rattle.notes.specs.Lists.{at}
use Rattle.tx_events.specs.History.{next_given}
use Rattle.tx_events.specs.Horizon.{oldest_id, oldest_xmin}
use Rattle.tx_core.specs.Locks.{proc_lock}
use Rattle.engine_parts.specs.Sessions.{by_at}
use Rattle.engine_parts.proofs.Tabling.{proc_looks}
use Rattle.proc_sections.proofs.Looked.{Looked, looked}
use Rattle.proc_sections.proofs.looking.read_horizons.Given.{Over}
use Rattle.proc_sections.proofs.looking.read_horizons.Goals as goal
use Rattle.proc_sections.proofs.looking.read_horizons.Goals.{After-leave_looked}

pub leave_looked-requires-clause-stands : goal.leave_looked-requires-clause-stands
leave_looked-requires-clause-stands g c =
    let u = c.enter_proc-held.new.caller in
    (refl, proc_looks (start_of c.args.hall.now) c.enter_proc-held.result.value (at (view u.pass).seen proc_lock) (by_at u.number u.session.levels.commands) c.enter_proc-held.ensures.stands)

looks : (g : Over) (c : After-leave_looked g) → Looked (start_of c.args.hall.now) (view c.args.caller.now.pass) (view c.enter_proc-held.new.caller.pass) (view c.leave_looked.new.caller.pass) c.args.caller.now.number c.args.caller.now.session
looks g c =
    let old = c.args.caller.now in
    let t = c.enter_proc-held.new.caller in
    looked (start_of c.args.hall.now) (view old.pass) (view t.pass) (view c.leave_looked.new.caller.pass) old.number t.number old.session t.session c.enter_proc-held.ensures.same c.requires.ready.at c.enter_proc-held.ensures.entered c.leave_looked.ensures.left

pub returns-clause-section : goal.returns-clause-section
returns-clause-section g c = (looks g c).section

pub returns-clause-went : goal.returns-clause-went
returns-clause-went g c = (looks g c).went

pub returns-clause-horizons : goal.returns-clause-horizons
returns-clause-horizons g c =
    let stands = subst (λ l. ProcStands (start_of c.args.hall.now) l (at (view c.enter_proc-held.new.caller.pass).seen proc_lock)) (sym c.deref-table.ensures) c.enter_proc-held.ensures.stands in
    let events = stands.events ∙ sym (looks g c).still in
    record {
      next = c.next.ensures ∙ (λ j. next_given (stands.base j).next (events j));
      oldest = c.oldest.ensures ∙ (λ j. oldest_id (stands.base j).oldest (events j));
      xmin = c.oldest_xmin.ensures ∙ (λ j. oldest_xmin (stands.base j).next (events j));
    }
