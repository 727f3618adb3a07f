use Rattle.std.proofs.Common.{Option, arith, ap, subst, sym, ◌++◌, ◌∷◌, [], ◌∙◌}
use Rattle.hall.specs.Calls.{view, start_of}
use Rattle.notes.specs.Lists.{at}
use Rattle.tx_events.specs.declared.event.By.{By}
use Rattle.tx_core.specs.declared.entry.Entry.{Entry}
use Rattle.tx_core.specs.Locks.{log_lock}
use Rattle.engine_parts.specs.declared.session.Making.{Making}
use Rattle.engine_parts.specs.Holds.{Leaves}
use Rattle.engine_parts.specs.Parts.{IsLogOf}
use Rattle.log_sections.proofs.Sections.{append_entry}
use Rattle.log_sections.specs.MultiRecords.{session_logged}
use Rattle.log_sections.proofs.Recorded.{may_append_multi, ready_recorded}
use Rattle.log_sections.proofs.recording.leave_recorded.Goals as goal

pub leave_log-requires-clause-may : goal.leave_log-requires-clause-may
leave_log-requires-clause-may g c =
    let r = c.requires in
    may_append_multi (start_of c.args.hall.now) (view c.args.caller.now.pass) c.args.caller.now.number c.args.caller.now.session c.args.rec.now c.by-entry.result.value r.at r.record r.base r.up
    (c.by-entry.ensures ∙ ap (λ (b : By). append_entry b c.args.rec.now) c.command_of-by.ensures)

pub leave_log-requires-clause-stands : goal.leave_log-requires-clause-stands
leave_log-requires-clause-stands g c =
    subst (λ (e : Entry). IsLogOf (start_of c.args.hall.now) c.args.log.value (at (view c.args.caller.now.pass).seen log_lock ++ e ∷ [])) (sym (c.by-entry.ensures ∙ ap (λ (b : By). append_entry b c.args.rec.now) c.command_of-by.ensures)) c.requires.stands

pub leave_log-requires-clause-session : goal.leave_log-requires-clause-session
leave_log-requires-clause-session g c = ap (λ (e : Entry). e.by.session) (c.by-entry.ensures ∙ ap (λ (b : By). append_entry b c.args.rec.now) c.command_of-by.ensures) ∙ sym c.requires.at.name

pub returns-clause-ready : goal.returns-clause-ready
returns-clause-ready g c =
    let r = c.requires in
    let wide = r.at.wide in
    let same = c.leave_log.ensures.same in
    ready_recorded (start_of c.args.hall.now) (view c.args.caller.now.pass) (view c.leave_log.new.caller.pass) c.args.caller.now.number c.leave_log.new.caller.number c.args.caller.now.session (record c.leave_log.new.caller.session { making = c.mark_logged.new.making }) c.args.rec.now c.by-entry.result.value r.at (omega arith)
    (c.by-entry.ensures ∙ ap (λ (b : By). append_entry b c.args.rec.now) c.command_of-by.ensures) r.record (ap (λ (o : Option Making). record c.leave_log.new.caller.session { making = o }) c.mark_logged.ensures ∙ ap session_logged same.0) same.1 c.leave_log.ensures.left

pub returns-clause-left : goal.returns-clause-left
returns-clause-left g c = subst (λ (e : Entry). Leaves (start_of c.args.hall.now) log_lock e (view c.args.caller.now.pass) (view c.leave_log.new.caller.pass)) (c.by-entry.ensures ∙ ap (λ (b : By). append_entry b c.args.rec.now) c.command_of-by.ensures) c.leave_log.ensures.left
