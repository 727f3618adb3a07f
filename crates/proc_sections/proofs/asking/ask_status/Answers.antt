use Rattle.std.proofs.Common.{◌≡◌, ◌++◌, ◌∷◌, [], refl, sym, ap, subst, ◌∙◌, arith}
use Rattle.hall.specs.Calls.{view, start_of}
use Rattle.notes.specs.Lists.{at}
use Rattle.tx_events.specs.declared.event.By.{By}
use Rattle.tx_events.specs.declared.event.Event.TheVariants as events
use Rattle.tx_core.specs.declared.entry.Entry.{Entry}
use Rattle.tx_core.specs.Entries.{asks_in, event_of}
use Rattle.tx_core.specs.Locks.{proc_lock}
use Rattle.tx_core.specs.ProgramOrder.{IsInTurn}
use Rattle.proc_table.specs.Table.{Table}
use Rattle.engine_parts.specs.Faults.{look_of}
use Rattle.engine_parts.specs.Sessions.{by_at, look_by}
use Rattle.engine_parts.specs.Stand.{ProcStands}
use Rattle.engine_parts.proofs.Leaving.{history_event}
use Rattle.engine_parts.proofs.Sectioning.{same_command, proc_event, proc_quiet, proc_section_of}
use Rattle.engine_parts.proofs.Tabling.{proc_adds, proc_looks}
use Rattle.proc_sections.proofs.Questions.{answered_by, ask_entry, may_ask, ready_asked}
use Rattle.proc_sections.proofs.asking.ask_status.Goals as goal

pub leave_proc-requires-clause-may : goal.leave_proc-requires-clause-may
leave_proc-requires-clause-may g c =
    let start = start_of c.args.hall.now in
    let e = c.enter_proc-held.ensures in
    let old = c.args.caller.now in
    let u = c.enter_proc-held.new.caller in
    let by = by_at old.number old.session.levels.commands in
    may_ask start (view u.pass).seen by c.args.x c.ask_note-entry.result.value (c.ask_note-entry.ensures ∙ ap (λ (b : By). ask_entry b c.args.x) c.command_of-by.ensures) e.entered.shown c.requires.full
    (subst (λ (b : By). IsInTurn start (at (view u.pass).seen proc_lock) b) (λ j. by_at (e.same.1 j) (e.same.0 j).levels.commands) (e.at.turns proc_lock))

pub leave_proc-requires-clause-stands : goal.leave_proc-requires-clause-stands
leave_proc-requires-clause-stands g c =
    let es = at (view c.enter_proc-held.new.caller.pass).seen proc_lock in
    let by = c.command_of-by.result in
    subst (λ (d : Entry). ProcStands (start_of c.args.hall.now) c.ask.new.self (es ++ d ∷ [])) (sym c.ask_note-entry.ensures)
    (proc_adds (start_of c.args.hall.now) c.deref_mut-table.result.now c.ask.new.self es by (events.Ask by c.args.x) (subst (λ l. ProcStands (start_of c.args.hall.now) l (at (view c.enter_proc-held.new.caller.pass).seen proc_lock)) (sym c.deref_mut-table.ensures.value) c.enter_proc-held.ensures.stands) c.in-Ok.ensures.1)

pub returns-in-Ok-clause-section : goal.returns-in-Ok-clause-section
returns-in-Ok-clause-section g c =
    let old = c.args.caller.now in
    proc_section_of (start_of c.args.hall.now) (view old.pass) (view c.enter_proc-held.new.caller.pass) (view c.leave_proc.new.caller.pass) c.ask_note-entry.result.value (ask_entry (by_at old.number old.session.levels.commands) c.args.x) c.enter_proc-held.ensures.entered
    (c.ask_note-entry.ensures ∙ ap (λ (b : By). ask_entry b c.args.x) c.command_of-by.ensures) c.leave_proc.ensures.left

pub returns-in-Ok-clause-ready : goal.returns-in-Ok-clause-ready
returns-in-Ok-clause-ready g c =
    let old = c.args.caller.now in
    let e = c.enter_proc-held.ensures in
    let u = c.enter_proc-held.new.caller in
    let w = c.leave_proc.new.caller in
    let r = c.leave_proc.ensures in
    ready_asked (start_of c.args.hall.now) (view u.pass) (view w.pass) u.number w.number u.session w.session c.args.x c.ask_note-entry.result.value e.at
    (c.ask_note-entry.ensures ∙ ap (λ (b : By). ask_entry b c.args.x) (c.command_of-by.ensures ∙ (λ j. by_at (sym e.same.1 j) (sym e.same.0 j).levels.commands))) r.same.0 r.same.1 r.left

pub returns-in-Ok-clause-asks : goal.returns-in-Ok-clause-asks
returns-in-Ok-clause-asks g c =
    let start = start_of c.args.hall.now in
    let old = c.args.caller.now in
    let e = c.enter_proc-held.ensures in
    let u = view c.enter_proc-held.new.caller.pass in
    let w = view c.leave_proc.new.caller.pass in
    let by = by_at old.number old.session.levels.commands in
    let d = c.ask_note-entry.result.value in
    let is : d ≡ ask_entry by c.args.x = c.ask_note-entry.ensures ∙ ap (λ (b : By). ask_entry b c.args.x) c.command_of-by.ensures in
    let wide = c.requires.ready.at.wide in
    let long = e.entered.long in (
      proc_event start (view old.pass) u w by old.session d (events.Ask by c.args.x) c.requires.ready.at e.entered (ap event_of is) refl (ap asks_in is) c.leave_proc.ensures.left,
      answered_by start u w by c.args.x c.deref_mut-table.result.now c.in-Ok.asked d (subst (λ l. ProcStands (start_of c.args.hall.now) l (at (view c.enter_proc-held.new.caller.pass).seen proc_lock)) (sym c.deref_mut-table.ensures.value) c.enter_proc-held.ensures.stands) c.in-Ok.ensures.0 is (history_event start u w d (events.Ask by c.args.x) (ap event_of is) (omega arith) c.leave_proc.ensures.left),
    )

pub leave_looked-requires-clause-stands : goal.leave_looked-requires-clause-stands
leave_looked-requires-clause-stands g c =
    let u = c.enter_proc-held.new.caller in
    let es = at (view u.pass).seen proc_lock in
    (refl, proc_looks (start_of c.args.hall.now) c.ask.new.self es (by_at u.number u.session.levels.commands) (subst (λ (t : Table). ProcStands (start_of c.args.hall.now) t es) (sym c.in-Err.ensures) (subst (λ l. ProcStands (start_of c.args.hall.now) l (at (view c.enter_proc-held.new.caller.pass).seen proc_lock)) (sym c.deref_mut-table.ensures.value) c.enter_proc-held.ensures.stands)))

pub returns-in-Err-clause-section : goal.returns-in-Err-clause-section
returns-in-Err-clause-section g c =
    let e = c.enter_proc-held.ensures in
    let t = c.enter_proc-held.new.caller in
    let s = c.args.caller.now.session in
    let n = c.args.caller.now.number in
    proc_section_of (start_of c.args.hall.now) (view c.args.caller.now.pass) (view t.pass) (view c.leave_looked.new.caller.pass) (look_by t.number t.session) (look_by n s) e.entered (ap look_of (same_command n t.number s t.session e.same.1 e.same.0)) c.leave_looked.ensures.left

pub returns-in-Err-clause-asks : goal.returns-in-Err-clause-asks
returns-in-Err-clause-asks g c =
    let e = c.enter_proc-held.ensures in
    let wide = c.requires.ready.at.wide in
    proc_quiet (start_of c.args.hall.now) (view c.args.caller.now.pass) (view c.enter_proc-held.new.caller.pass) (view c.leave_looked.new.caller.pass) c.args.caller.now.number c.args.caller.now.session _ c.requires.ready.at e.entered refl refl refl c.leave_looked.ensures.left
