use Rattle.std.proofs.Common.{[], ◌∷◌, ◌++◌, ◌∙◌, ap, subst, sym}
use Rattle.hall.specs.Calls.{view, start_of}
use Rattle.notes.specs.Lists.{at}
use Rattle.tx_core.specs.declared.entry.Entry.{Entry}
use Rattle.tx_core.specs.Entries.{appended, event_of}
use Rattle.tx_core.specs.MultiEntries.{multi_of}
use Rattle.engine_parts.specs.Faults.{look_of}
use Rattle.engine_parts.specs.Holds.{Leaves}
use Rattle.engine_parts.specs.Parts.{PartStands}
use Rattle.engine_parts.specs.Sessions.{by_at}
use Rattle.engine_parts.proofs.May.{may_look}
use Rattle.engine_parts.proofs.quiet.leave_looked.Goals as goal

pub leave_quiet-requires-clause-by : goal.leave_quiet-requires-clause-by
leave_quiet-requires-clause-by g c = ap (λ (e : Entry). e.by) (c.look_note-entry.ensures ∙ ap look_of c.command_of-by.ensures)

pub leave_quiet-requires-clause-quiet : goal.leave_quiet-requires-clause-quiet
leave_quiet-requires-clause-quiet g c = (ap event_of (c.look_note-entry.ensures ∙ ap look_of c.command_of-by.ensures), ap appended (c.look_note-entry.ensures ∙ ap look_of c.command_of-by.ensures), ap multi_of (c.look_note-entry.ensures ∙ ap look_of c.command_of-by.ensures))

pub leave_quiet-requires-clause-may : goal.leave_quiet-requires-clause-may
leave_quiet-requires-clause-may g c =
    may_look (start_of c.args.hall.now) (view c.args.caller.now.pass).seen c.args.lock (by_at c.args.caller.now.number c.args.caller.now.session.levels.commands) c.look_note-entry.result.value (c.look_note-entry.ensures ∙ ap look_of c.command_of-by.ensures) (c.requires.at.turns c.args.lock)

pub leave_quiet-requires-clause-stands : goal.leave_quiet-requires-clause-stands
leave_quiet-requires-clause-stands g c =
    subst (λ (e : Entry). PartStands (start_of c.args.hall.now) c.args.lock c.args.part (at (view c.args.caller.now.pass).seen c.args.lock ++ e ∷ [])) (sym (c.look_note-entry.ensures ∙ ap look_of c.command_of-by.ensures)) c.requires.stands

pub returns-clause-left : goal.returns-clause-left
returns-clause-left g c = subst (λ (e : Entry). Leaves (start_of c.args.hall.now) c.args.lock e (view c.args.caller.now.pass) (view c.leave_quiet.new.caller.pass)) (c.look_note-entry.ensures ∙ ap look_of c.command_of-by.ensures) c.leave_quiet.ensures.left
