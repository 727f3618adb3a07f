use Rattle.std.proofs.Common.{arith, ap, subst, sym, ◌++◌, ◌∷◌, [], ◌∙◌}
use Rattle.hall.specs.Calls.{view, start_of}
use Rattle.notes.specs.Lists.{at}
use Rattle.tx_events.specs.declared.event.By.{By}
use Rattle.tx_core.specs.declared.entry.Entry.{Entry}
use Rattle.tx_core.specs.declared.entry.Kind.TheVariants as kinds
use Rattle.tx_core.specs.Locks.{log_lock}
use Rattle.engine_parts.specs.Parts.{IsLogOf}
use Rattle.log_sections.proofs.Aborted.{may_append_abort, ready_aborted}
use Rattle.engine_parts.specs.declared.session.Session.{Session}
use Rattle.engine_parts.specs.declared.session.Stage.TheVariants as stages
use Rattle.log_sections.proofs.aborting.leave_with_abort.Goals as goal

pub leave_log-requires-clause-may : goal.leave_log-requires-clause-may
leave_log-requires-clause-may g c =
    let r = c.requires in
    may_append_abort (start_of c.args.hall.now) (view c.args.caller.now.pass) c.args.caller.now.number c.args.caller.now.session c.args.rec.now c.by-entry.result.value r.at r.unrecorded r.unaborted r.record r.base r.up
    (c.by-entry.ensures ∙ ap (λ (b : By). record { by = b; kind = kinds.Append c.args.rec.now }) c.command_of-by.ensures)

pub leave_log-requires-clause-stands : goal.leave_log-requires-clause-stands
leave_log-requires-clause-stands g c =
    subst (λ (e : Entry). IsLogOf (start_of c.args.hall.now) c.args.log.value (at (view c.args.caller.now.pass).seen log_lock ++ e ∷ [])) (sym (c.by-entry.ensures ∙ ap (λ (b : By). record { by = b; kind = kinds.Append c.args.rec.now }) c.command_of-by.ensures)) c.requires.stands

pub returns-clause-ready : goal.returns-clause-ready
returns-clause-ready g c =
    let r = c.requires in
    let wide = r.at.wide in
    let same = c.leave_log.ensures.same in
    ready_aborted (start_of c.args.hall.now) (view c.args.caller.now.pass) (view c.leave_log.new.caller.pass) c.args.caller.now.number c.leave_log.new.caller.number c.args.caller.now.session (record c.leave_log.new.caller.session { stage = stages.Aborting }) c.args.rec.now c.by-entry.result.value r.at r.unrecorded r.record (omega arith)
    (c.by-entry.ensures ∙ ap (λ (b : By). record { by = b; kind = kinds.Append c.args.rec.now }) c.command_of-by.ensures) (ap (λ (z : Session). record z { stage = stages.Aborting }) same.0) same.1 c.leave_log.ensures.left
