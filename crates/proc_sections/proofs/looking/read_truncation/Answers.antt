use Rattle.engine_parts.specs.Stand.{ProcStands}
use Rattle.std.proofs.Common.{◌≡◌, refl, sym, subst, ◌∙◌}
use Rattle.hall.specs.Calls.{view, start_of}
use Rattle.notes.specs.Lists.{at}
use Rattle.tx_events.specs.Ids.{IsFullMulti, IsXidNumber}
use Rattle.tx_events.specs.declared.record.Rec.TheVariants as records
use Rattle.tx_events.specs.Horizon.{oldest_id}
use Rattle.tx_core.specs.Entries.{history}
use Rattle.tx_core.specs.Locks.{proc_lock}
use Rattle.engine_parts.specs.Sessions.{by_at}
use Rattle.engine_parts.proofs.Tabling.{proc_looks}
use Rattle.proc_sections.proofs.Looked.{Looked, looked}
use Rattle.proc_sections.proofs.looking.read_truncation.Given.{Over}
use Rattle.proc_sections.proofs.looking.read_truncation.Goals as goal
use Rattle.proc_sections.proofs.looking.read_truncation.Goals.{After-leave_looked}

pub leave_looked-requires-clause-stands : goal.leave_looked-requires-clause-stands
leave_looked-requires-clause-stands g c =
    let u = c.enter_proc-held.new.caller in
    (refl, proc_looks (start_of c.args.hall.now) c.enter_proc-held.result.value (at (view u.pass).seen proc_lock) (by_at u.number u.session.levels.commands) c.enter_proc-held.ensures.stands)

looks : (g : Over) (c : After-leave_looked g) → Looked (start_of c.args.hall.now) (view c.args.caller.now.pass) (view c.enter_proc-held.new.caller.pass) (view c.leave_looked.new.caller.pass) c.args.caller.now.number c.args.caller.now.session
looks g c =
    let old = c.args.caller.now in
    let t = c.enter_proc-held.new.caller in
    looked (start_of c.args.hall.now) (view old.pass) (view t.pass) (view c.leave_looked.new.caller.pass) old.number t.number old.session t.session c.enter_proc-held.ensures.same c.requires.ready.at c.enter_proc-held.ensures.entered c.leave_looked.ensures.left

pub returns-clause-section : goal.returns-clause-section
returns-clause-section g c = (looks g c).section

pub returns-clause-went : goal.returns-clause-went
returns-clause-went g c = (looks g c).went

pub returns-clause-record : goal.returns-clause-record
returns-clause-record g c =
    let stands = subst (λ l. ProcStands (start_of c.args.hall.now) l (at (view c.enter_proc-held.new.caller.pass).seen proc_lock)) (sym c.deref-table.ensures) c.enter_proc-held.ensures.stands in
    let events = stands.events ∙ sym (looks g c).still in
    let base : c.base-base.result ≡ (start_of c.args.hall.now).base = c.base-base.ensures ∙ stands.base in
    let oldest : c.oldest-oldest.result ≡ oldest_id (start_of c.args.hall.now).base.oldest (history (view c.leave_looked.new.caller.pass).seen) = c.oldest-oldest.ensures ∙ (λ j. oldest_id (stands.base j).oldest (events j)) in
    λ j. records.Truncate (oldest j) (base j).oldest_multi (base j).oldest_offset

pub returns-clause-forms : goal.returns-clause-forms
returns-clause-forms g c = (
  subst IsXidNumber c.number-oldest.ensures.value c.number-oldest.ensures.form,
  subst IsFullMulti c.number-multi.ensures.value c.number-multi.ensures.form,
)
