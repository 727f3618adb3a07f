use Rattle.std.proofs.Common.{[], ◌∷◌, ◌++◌, ap, refl, subst, sym, ◌∙◌}
use Rattle.hall.specs.Calls.{view, start_of}
use Rattle.notes.specs.Lists.{at}
use Rattle.tx_core.specs.declared.entry.Entry.{Entry}
use Rattle.tx_core.specs.Entries.{appended, event_of}
use Rattle.tx_core.specs.MultiEntries.{multi_of}
use Rattle.tx_core.specs.Locks.{log_lock}
use Rattle.wal_core.specs.LogViews.{log_disk}
use Rattle.engine_parts.specs.Holds.{Leaves}
use Rattle.engine_parts.specs.Parts.{IsLogOf}
use Rattle.engine_parts.specs.Sessions.{by_at}
use Rattle.engine_parts.proofs.May.{may_fail_flush}
use Rattle.tx_events.specs.declared.event.By.{By}
use Rattle.engine_parts.specs.Faults.{flush_fault_by}
use Rattle.log_sections.proofs.flushing.leave_failed.Goals as goal

pub leave_quiet-requires-clause-by : goal.leave_quiet-requires-clause-by
leave_quiet-requires-clause-by g c = ap (λ (e : Entry). e.by) (c.flush_fault_note-entry.ensures ∙ (ap (λ l. flush_fault_by c.command_of-by.result (g.L.LogDisk.faults (log_disk l))) c.deref.ensures) ∙ ap (λ (b : By). flush_fault_by b (g.L.LogDisk.faults (log_disk c.args.log.value))) c.command_of-by.ensures)

pub leave_quiet-requires-clause-quiet : goal.leave_quiet-requires-clause-quiet
leave_quiet-requires-clause-quiet g c = (ap event_of (c.flush_fault_note-entry.ensures ∙ (ap (λ l. flush_fault_by c.command_of-by.result (g.L.LogDisk.faults (log_disk l))) c.deref.ensures) ∙ ap (λ (b : By). flush_fault_by b (g.L.LogDisk.faults (log_disk c.args.log.value))) c.command_of-by.ensures), ap appended (c.flush_fault_note-entry.ensures ∙ (ap (λ l. flush_fault_by c.command_of-by.result (g.L.LogDisk.faults (log_disk l))) c.deref.ensures) ∙ ap (λ (b : By). flush_fault_by b (g.L.LogDisk.faults (log_disk c.args.log.value))) c.command_of-by.ensures), ap multi_of (c.flush_fault_note-entry.ensures ∙ (ap (λ l. flush_fault_by c.command_of-by.result (g.L.LogDisk.faults (log_disk l))) c.deref.ensures) ∙ ap (λ (b : By). flush_fault_by b (g.L.LogDisk.faults (log_disk c.args.log.value))) c.command_of-by.ensures))

pub leave_quiet-requires-clause-may : goal.leave_quiet-requires-clause-may
leave_quiet-requires-clause-may g c =
    may_fail_flush (start_of c.args.hall.now) (view c.args.caller.now.pass).seen (by_at c.args.caller.now.number c.args.caller.now.session.levels.commands) (g.L.LogDisk.faults (log_disk c.args.log.value)) c.flush_fault_note-entry.result.value c.requires.up c.requires.risen (c.flush_fault_note-entry.ensures ∙ (ap (λ l. flush_fault_by c.command_of-by.result (g.L.LogDisk.faults (log_disk l))) c.deref.ensures) ∙ ap (λ (b : By). flush_fault_by b (g.L.LogDisk.faults (log_disk c.args.log.value))) c.command_of-by.ensures) (c.requires.at.turns log_lock)

pub leave_quiet-requires-clause-stands : goal.leave_quiet-requires-clause-stands
leave_quiet-requires-clause-stands g c =
    (refl, subst (λ (e : Entry). IsLogOf (start_of c.args.hall.now) c.args.log.value (at (view c.args.caller.now.pass).seen log_lock ++ e ∷ [])) (sym (c.flush_fault_note-entry.ensures ∙ (ap (λ l. flush_fault_by c.command_of-by.result (g.L.LogDisk.faults (log_disk l))) c.deref.ensures) ∙ ap (λ (b : By). flush_fault_by b (g.L.LogDisk.faults (log_disk c.args.log.value))) c.command_of-by.ensures)) c.requires.stands)

pub returns-clause-left : goal.returns-clause-left
returns-clause-left g c = subst (λ (e : Entry). Leaves (start_of c.args.hall.now) log_lock e (view c.args.caller.now.pass) (view c.leave_quiet.new.caller.pass)) (c.flush_fault_note-entry.ensures ∙ (ap (λ l. flush_fault_by c.command_of-by.result (g.L.LogDisk.faults (log_disk l))) c.deref.ensures) ∙ ap (λ (b : By). flush_fault_by b (g.L.LogDisk.faults (log_disk c.args.log.value))) c.command_of-by.ensures) c.leave_quiet.ensures.left
