use Rattle.std.proofs.Common.{◌++◌, ◌∷◌, [], ℕ, ap, ◌∙◌, subst, sym, refl, drop}
use Rattle.hall.specs.Calls.{view, start_of}
use Rattle.notes.specs.Lists.{at}
use Rattle.tx_events.specs.declared.event.By.{By}
use Rattle.tx_events.specs.Running.{open_ids}
use Rattle.tx_events.specs.XactEnds.{end_event}
use Rattle.tx_core.specs.declared.entry.Entry.{Entry}
use Rattle.tx_core.specs.Entries.{history}
use Rattle.tx_core.specs.Locks.{proc_lock}
use Rattle.tx_core.specs.ProgramOrder.{IsInTurn}
use Rattle.engine_parts.specs.declared.session.Session.{Session}
use Rattle.engine_parts.specs.Holds.{Leaves, ProcSection}
use Rattle.engine_parts.specs.Sessions.{IsAt, by_at}
use Rattle.engine_parts.specs.Stand.{ProcStands}
use Rattle.engine_parts.specs.Steps.{WentOn}
use Rattle.session_levels.proofs.HeadLemmas.{first_top, heads}
use Rattle.engine_parts.proofs.Tabling.{proc_adds}
use Rattle.proc_sections.proofs.Closing.{call_ended, end_by, end_entry, marked_on, may_add_end, ready_ended, record_for, split_first}
use Rattle.engine_parts.proofs.Sectioning.{entered_grows, proc_event, proc_section_of}
use Rattle.proc_sections.proofs.ending.end_transaction.Goals as goal

pub leave_proc-requires-clause-may : goal.leave_proc-requires-clause-may
leave_proc-requires-clause-may g c =
    let e = c.enter_proc-held.ensures in
    let start = start_of c.args.hall.now in
    let s = c.args.caller.now.session in
    let n = c.args.caller.now.number in
    let v = view c.args.caller.now.pass in
    let u = c.enter_proc-held.new.caller in
    let t = u.session in
    let top = c.index-top.result.now in
    let split = split_first s.levels.open_ids.items top c.requires.some c.index-top.ensures in
    let opened = ap (λ (z : Session). z.levels.open_ids.items) e.same.0 ∙ split in
    let subs = drop 1 s.levels.open_ids.items in
    may_add_end start (view u.pass).seen c.args.how (by_at n s.levels.commands) top subs c.by-entry.result.value c.by-entry.ensures e.entered.shown
    (ap (λ k. open_ids k (history (view u.pass).seen)) (sym e.same.1) ∙ (e.at.stands.opened ∙ opened))
    (first_top (history (view u.pass).seen) t.levels.open_ids.items t.levels.level_ids.items top subs e.at.stands.nest opened)
    (record_for start c.args.how v (view u.pass) n top subs s c.requires.may (subst (λ (z : ℕ × Session). IsAt start (view u.pass) z.0 z.1) (λ j. (e.same.1 j, e.same.0 j)) e.at) (entered_grows start v (view u.pass) n s c.requires.may.ready.at e.entered) split c.requires.end)
    (marked_on start v.seen (view u.pass).seen s.levels.open_ids.items top subs c.args.how (entered_grows start v (view u.pass) n s c.requires.may.ready.at e.entered) split c.requires.end.marked)
    (subst (λ (b : By). IsInTurn (start_of c.args.hall.now) (at (view u.pass).seen proc_lock) b) (λ j. by_at (e.same.1 j) (e.same.0 j).levels.commands) (e.at.turns proc_lock))

pub leave_proc-requires-clause-stands : goal.leave_proc-requires-clause-stands
leave_proc-requires-clause-stands g c =
    let by = by_at c.args.caller.now.number c.args.caller.now.session.levels.commands in
    let es = at (view c.enter_proc-held.new.caller.pass).seen proc_lock in
    subst (λ (d : Entry). ProcStands (start_of c.args.hall.now) c.end.new.self (es ++ d ∷ [])) (sym c.by-entry.ensures)
    (proc_adds (start_of c.args.hall.now) c.deref_mut-table.result.now c.end.new.self es by (end_event c.args.how by c.index-top.result.now) (subst (λ l. ProcStands (start_of c.args.hall.now) l (at (view c.enter_proc-held.new.caller.pass).seen proc_lock)) (sym c.deref_mut-table.ensures.value) c.enter_proc-held.ensures.stands) c.end.ensures)

pub returns-clause-may : goal.returns-clause-may
returns-clause-may g c =
    let e = c.enter_proc-held.ensures in
    let start = start_of c.args.hall.now in
    let s = c.args.caller.now.session in
    let t = c.enter_proc-held.new.caller.session in
    let top = c.index-top.result.now in
    let split = split_first s.levels.open_ids.items top c.requires.some c.index-top.ensures in
    let l = c.leave_proc.ensures.same in
    call_ended start (view c.leave_proc.new.caller.pass) c.leave_proc.new.caller.number _
    (ready_ended start (view c.enter_proc-held.new.caller.pass) (view c.leave_proc.new.caller.pass) c.enter_proc-held.new.caller.number c.leave_proc.new.caller.number t _ c.args.how top (drop 1 s.levels.open_ids.items) c.by-entry.result.value e.at
    (c.by-entry.ensures ∙ (λ j. end_entry c.args.how (by_at (sym e.same.1 j) (sym e.same.0 j).levels.commands) top)) (ap (λ (z : Session). z.levels.open_ids.items) e.same.0 ∙ split)
    (ap (λ (z : Session). z.levels.commands) l.0) c.clear.ensures.items refl c.clear-2.ensures.items (ap (λ (z : Session). z.levels.registered) l.0) refl (ap (λ (z : Session). z.making) l.0) l.1 c.leave_proc.ensures.left)
    c.clear-2.ensures.items refl

pub returns-clause-ended : goal.returns-clause-ended
returns-clause-ended g c =
    let e = c.enter_proc-held.ensures in
    let s = c.args.caller.now.session in
    let by = by_at c.args.caller.now.number s.levels.commands in
    let top = c.index-top.result.now in
    let split = split_first s.levels.open_ids.items top c.requires.some c.index-top.ensures in
    let same = c.leave_proc.ensures.same.0 ∙ e.same.0 in
    record {
      went = λ t subs is.
          subst (λ z. WentOn c.args.caller.now.number (end_event c.args.how by z ∷ []) (view c.args.caller.now.pass).seen (view c.leave_proc.new.caller.pass).seen) (heads top t (drop 1 s.levels.open_ids.items) subs (sym split ∙ is))
          (proc_event (start_of c.args.hall.now) (view c.args.caller.now.pass) (view c.enter_proc-held.new.caller.pass) (view c.leave_proc.new.caller.pass) by s (end_entry c.args.how by top) (end_event c.args.how by top) c.requires.may.ready.at e.entered refl (end_by c.args.how by top) refl
          (subst (λ (d : Entry). Leaves (start_of c.args.hall.now) proc_lock d (view c.enter_proc-held.new.caller.pass) (view c.leave_proc.new.caller.pass)) c.by-entry.ensures c.leave_proc.ensures.left));
      named = c.clear.ensures.items;
      unnamed = refl;
      opened = c.clear-2.ensures.items;
      registered = ap (λ (z : Session). z.levels.registered) same;
      count = ap (λ (z : Session). z.levels.commands) same;
      stage = refl;
      unlinked = refl;
      making = ap (λ (z : Session). z.making) same;
    }

pub returns-clause-section : goal.returns-clause-section
returns-clause-section g c t subs is =
    let start = start_of c.args.hall.now in
    let s = c.args.caller.now.session in
    let by = by_at c.args.caller.now.number s.levels.commands in
    let v = view c.args.caller.now.pass in
    let w = view c.leave_proc.new.caller.pass in
    let top = c.index-top.result.now in
    let split = split_first s.levels.open_ids.items top c.requires.some c.index-top.ensures in
    subst (λ (z : ℕ). ProcSection start (end_entry c.args.how by z) v w) (heads top t (drop 1 s.levels.open_ids.items) subs (sym split ∙ is))
    (proc_section_of start v (view c.enter_proc-held.new.caller.pass) w c.by-entry.result.value (end_entry c.args.how by top) c.enter_proc-held.ensures.entered c.by-entry.ensures c.leave_proc.ensures.left)
