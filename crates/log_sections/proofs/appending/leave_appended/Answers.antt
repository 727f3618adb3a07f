use Rattle.std.proofs.Common.{arith, ap, subst, sym, ◌++◌, ◌∷◌, [], ◌∙◌}
use Rattle.hall.specs.Calls.{view, start_of}
use Rattle.notes.specs.Lists.{at}
use Rattle.tx_core.specs.declared.entry.Entry.{Entry}
use Rattle.tx_core.specs.Locks.{log_lock}
use Rattle.engine_parts.specs.declared.session.Session.{Session}
use Rattle.engine_parts.specs.declared.session.Stage.TheVariants as stages
use Rattle.engine_parts.specs.Parts.{IsLogOf}
use Rattle.engine_parts.proofs.Leaving.{ready_recorded}
use Rattle.log_sections.proofs.Sections.{may_append_commit, append_entry}
use Rattle.tx_events.specs.declared.event.By.{By}
use Rattle.engine_parts.specs.Holds.{Leaves}
use Rattle.log_sections.proofs.appending.leave_appended.Goals as goal

pub leave_log-requires-clause-may : goal.leave_log-requires-clause-may
leave_log-requires-clause-may g c =
    let r = c.requires in
    may_append_commit (start_of c.args.hall.now) (view c.args.caller.now.pass) c.args.caller.now.number c.args.caller.now.session c.args.rec.now c.by-entry.result.value r.at r.clear r.linked r.record r.unasked r.base r.up (c.by-entry.ensures ∙ ap (λ (b : By). append_entry b c.args.rec.now) c.command_of-by.ensures)

pub leave_log-requires-clause-stands : goal.leave_log-requires-clause-stands
leave_log-requires-clause-stands g c =
    subst (λ (e : Entry). IsLogOf (start_of c.args.hall.now) c.args.log.value (at (view c.args.caller.now.pass).seen log_lock ++ e ∷ [])) (sym (c.by-entry.ensures ∙ ap (λ (b : By). append_entry b c.args.rec.now) c.command_of-by.ensures)) c.requires.stands

pub returns-clause-ready : goal.returns-clause-ready
returns-clause-ready g c =
    let wide = c.requires.at.wide in
    let same = c.leave_log.ensures.same in
    ready_recorded (start_of c.args.hall.now) (view c.args.caller.now.pass) (view c.leave_log.new.caller.pass) c.args.caller.now.number c.leave_log.new.caller.number c.args.number c.args.caller.now.session _ c.args.rec.now c.by-entry.result.value c.requires.at (omega arith)
    (c.by-entry.ensures ∙ ap (λ (b : By). append_entry b c.args.rec.now) c.command_of-by.ensures) (λ top subs q. let z = sym c.requires.record.is ∙ q in cc) (λ multi offset members q. let z = sym c.requires.record.is ∙ q in cc) c.requires.clear (ap (λ (z : Session). record z { stage = stages.Logged c.args.number }) same.0) same.1 c.leave_log.ensures.left

pub leave_log-requires-clause-session : goal.leave_log-requires-clause-session
leave_log-requires-clause-session g c = ap (λ (e : Entry). e.by.session) (c.by-entry.ensures ∙ ap (λ (b : By). append_entry b c.args.rec.now) c.command_of-by.ensures) ∙ sym c.requires.at.name

pub returns-clause-left : goal.returns-clause-left
returns-clause-left g c = subst (λ (e : Entry). Leaves (start_of c.args.hall.now) log_lock e (view c.args.caller.now.pass) (view c.leave_log.new.caller.pass)) (c.by-entry.ensures ∙ ap (λ (b : By). append_entry b c.args.rec.now) c.command_of-by.ensures) c.leave_log.ensures.left
