use Rattle.std.proofs.Common.{Contains, ◌++◌, ◌∷◌, [], ◌≤◌, arith, ap, ◌∙◌, subst, sym, refl}
use Rattle.hall.specs.Calls.{view, start_of}
use Rattle.notes.specs.Lists.{at}
use Rattle.tx_events.specs.declared.event.By.{By}
use Rattle.tx_events.specs.History.{next_given}
use Rattle.tx_core.specs.declared.entry.Entry.{Entry}
use Rattle.tx_core.specs.Entries.{appended, asks_in, event_of}
use Rattle.tx_core.specs.MultiEntries.{multi_of}
use Rattle.tx_core.specs.Locks.{proc_lock}
use Rattle.tx_core.specs.ProgramOrder.{IsInTurn}
use Rattle.tx_core.proofs.Lasting.{made_grows}
use Rattle.engine_parts.specs.declared.session.Session.{Session}
use Rattle.engine_parts.specs.Sessions.{by_at, inner_id}
use Rattle.engine_parts.specs.Stand.{ProcStands}
use Rattle.engine_parts.proofs.Leaving.{stands_left}
use Rattle.proc_sections.proofs.Making.{may_told, next_later, proc_told, told_entry}
use Rattle.engine_parts.proofs.Sectioning.{entered_grows, proc_call, proc_quiet, proc_section_of}
use Rattle.proc_sections.proofs.telling.tell_made.Goals as goal

pub made-requires : goal.made-requires
made-requires g c =
    let e = c.enter_proc-held.ensures in
    let v = view c.args.caller.now.pass in
    let old = c.args.caller.now in
    let n = next_later (start_of c.args.hall.now) v.seen (view c.enter_proc-held.new.caller.pass).seen c.args.id (entered_grows (start_of c.args.hall.now) v (view c.enter_proc-held.new.caller.pass) old.number old.session c.requires.may.ready.at e.entered) c.requires.next in
    subst (λ z. c.args.id ≤ z) (sym (λ j. next_given ((subst (λ l. ProcStands (start_of c.args.hall.now) l (at (view c.enter_proc-held.new.caller.pass).seen proc_lock)) (sym c.deref_mut-table.ensures.value) c.enter_proc-held.ensures.stands).base j).next ((subst (λ l. ProcStands (start_of c.args.hall.now) l (at (view c.enter_proc-held.new.caller.pass).seen proc_lock)) (sym c.deref_mut-table.ensures.value) c.enter_proc-held.ensures.stands).events j))) n

pub leave_quiet-requires-clause-by : goal.leave_quiet-requires-clause-by
leave_quiet-requires-clause-by g c = let e = c.enter_proc-held.ensures in ap (λ (z : Entry). z.by) (c.made_note-entry.ensures ∙ ap (λ (b : By). told_entry b c.args.id) c.command_of-by.ensures) ∙ (λ j. by_at (sym e.same.1 j) (sym e.same.0 j).levels.commands)

pub leave_quiet-requires-clause-quiet : goal.leave_quiet-requires-clause-quiet
leave_quiet-requires-clause-quiet g c = (ap event_of (c.made_note-entry.ensures ∙ ap (λ (b : By). told_entry b c.args.id) c.command_of-by.ensures), ap appended (c.made_note-entry.ensures ∙ ap (λ (b : By). told_entry b c.args.id) c.command_of-by.ensures), ap multi_of (c.made_note-entry.ensures ∙ ap (λ (b : By). told_entry b c.args.id) c.command_of-by.ensures))

pub leave_quiet-requires-clause-may : goal.leave_quiet-requires-clause-may
leave_quiet-requires-clause-may g c =
    let start = start_of c.args.hall.now in
    let e = c.enter_proc-held.ensures in
    let v = view c.args.caller.now.pass in
    let u = view c.enter_proc-held.new.caller.pass in
    let by = by_at c.args.caller.now.number c.args.caller.now.session.levels.commands in
    let grows = entered_grows start v u c.args.caller.now.number c.args.caller.now.session c.requires.may.ready.at e.entered in
    may_told start u.seen by c.args.id c.made_note-entry.result.value (c.made_note-entry.ensures ∙ ap (λ (b : By). told_entry b c.args.id) c.command_of-by.ensures) (made_grows start v.seen u.seen c.args.id grows c.requires.made)
    (next_later start v.seen u.seen c.args.id grows c.requires.next)
    (subst (λ (b : By). IsInTurn (start_of c.args.hall.now) (at u.seen proc_lock) b) (λ j. by_at (e.same.1 j) (e.same.0 j).levels.commands) (e.at.turns proc_lock))

pub leave_quiet-requires-clause-stands : goal.leave_quiet-requires-clause-stands
leave_quiet-requires-clause-stands g c =
    let e = c.enter_proc-held.ensures in
    let by = by_at c.args.caller.now.number c.args.caller.now.session.levels.commands in
    let es = at (view c.enter_proc-held.new.caller.pass).seen proc_lock in (
      refl,
      subst (λ (d : Entry). ProcStands (start_of c.args.hall.now) c.made.new.self (es ++ d ∷ [])) (sym (c.made_note-entry.ensures ∙ ap (λ (b : By). told_entry b c.args.id) c.command_of-by.ensures))
          (proc_told (start_of c.args.hall.now) c.deref_mut-table.result.now c.made.new.self es by c.args.id (subst (λ l. ProcStands (start_of c.args.hall.now) l (at (view c.enter_proc-held.new.caller.pass).seen proc_lock)) (sym c.deref_mut-table.ensures.value) c.enter_proc-held.ensures.stands) c.made.ensures),
    )

pub returns-clause-may : goal.returns-clause-may
returns-clause-may g c =
    let e = c.enter_proc-held.ensures in
    let r = c.leave_quiet.ensures in
    let wide = c.requires.may.ready.at.wide in
    let same = r.same.0 ∙ e.same.0 in
    proc_call (start_of c.args.hall.now) (view c.args.caller.now.pass) (view c.enter_proc-held.new.caller.pass) (view c.leave_quiet.new.caller.pass) c.args.caller.now.number c.leave_quiet.new.caller.number c.args.caller.now.session c.leave_quiet.new.caller.session c.made_note-entry.result.value
    c.requires.may e.entered r.left (ap asks_in (c.made_note-entry.ensures ∙ ap (λ (b : By). told_entry b c.args.id) c.command_of-by.ensures)) (ap (λ (z : Session). inner_id z) same) (ap (λ (z : Session). z.levels.open_ids.items) same) (ap (λ (z : Session). z.stage) same) (r.same.1 ∙ e.same.1) r.ready

pub returns-clause-went : goal.returns-clause-went
returns-clause-went g c =
    let e = c.enter_proc-held.ensures in
    let wide = c.requires.may.ready.at.wide in
    proc_quiet (start_of c.args.hall.now) (view c.args.caller.now.pass) (view c.enter_proc-held.new.caller.pass) (view c.leave_quiet.new.caller.pass) c.args.caller.now.number c.args.caller.now.session c.made_note-entry.result.value c.requires.may.ready.at e.entered (ap event_of (c.made_note-entry.ensures ∙ ap (λ (b : By). told_entry b c.args.id) c.command_of-by.ensures)) (ap multi_of (c.made_note-entry.ensures ∙ ap (λ (b : By). told_entry b c.args.id) c.command_of-by.ensures)) (ap asks_in (c.made_note-entry.ensures ∙ ap (λ (b : By). told_entry b c.args.id) c.command_of-by.ensures)) c.leave_quiet.ensures.left

pub returns-clause-told : goal.returns-clause-told
returns-clause-told g c =
    let wide = c.requires.may.ready.at.wide in
    let long = c.enter_proc-held.ensures.entered.long in
    let w = view c.leave_quiet.new.caller.pass in
    (by_at c.args.caller.now.number c.args.caller.now.session.levels.commands, subst (λ (d : Entry). Contains (at w.seen proc_lock) d) (c.made_note-entry.ensures ∙ ap (λ (b : By). told_entry b c.args.id) c.command_of-by.ensures) (stands_left (start_of c.args.hall.now) (view c.enter_proc-held.new.caller.pass) w proc_lock c.made_note-entry.result.value (omega arith) c.leave_quiet.ensures.left))

pub returns-clause-section : goal.returns-clause-section
returns-clause-section g c =
    proc_section_of (start_of c.args.hall.now) (view c.args.caller.now.pass) (view c.enter_proc-held.new.caller.pass) (view c.leave_quiet.new.caller.pass) c.made_note-entry.result.value _ c.enter_proc-held.ensures.entered (c.made_note-entry.ensures ∙ ap (λ (b : By). told_entry b c.args.id) c.command_of-by.ensures) c.leave_quiet.ensures.left
