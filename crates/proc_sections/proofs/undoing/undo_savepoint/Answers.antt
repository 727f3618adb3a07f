use Rattle.std.proofs.Common.{◌≡◌, ℕ, ◌+◌, ◌-◌, ◌≤◌, arith, ◌++◌, ◌∷◌, [], List, length, take, drop, sym, ap, subst, ◌∙◌, refl, not, nat_le, Contains, false}
use Rattle.std.proofs.lemmas.List.{take_rest}
use Rattle.std.specs.List.{filter}
use Rattle.std.specs.Vec.{vec_len}
use Rattle.hall.specs.Calls.{view, start_of}
use Rattle.notes.specs.Lists.{at}
use Rattle.tx_events.specs.declared.event.Event.{Event}
use Rattle.tx_events.specs.declared.event.Event.TheVariants as events
use Rattle.tx_events.specs.Families.{is_top}
use Rattle.tx_events.specs.Running.{open_ids}
use Rattle.tx_events.specs.Savepoints.{is_inside}
use Rattle.tx_core.specs.declared.entry.Entry.{Entry}
use Rattle.tx_core.specs.declared.entry.State.TheVariants as states
use Rattle.tx_core.specs.Entries.{history}
use Rattle.tx_core.specs.Locks.{proc_lock}
use Rattle.tx_core.proofs.Lasting.{marked_grows}
use Rattle.session_levels.proofs.StandsLemmas.{inside_from}
use Rattle.engine_parts.specs.declared.session.Session.{Session}
use Rattle.engine_parts.specs.Holds.{Leaves}
use Rattle.engine_parts.specs.Sessions.{IsAt, by_at}
use Rattle.engine_parts.specs.Stages.{may_be_recorded, may_be_aborted}
use Rattle.engine_parts.specs.Stand.{ProcStands}
use Rattle.engine_parts.proofs.Sectioning.{entered_grows, proc_event}
use Rattle.engine_parts.proofs.Tabling.{proc_adds}
use Rattle.proc_sections.proofs.Cutting.{call_undone, may_add_undo, ready_undone_at, savepoint_of, undo_entry, undone_is}
use Rattle.engine_parts.proofs.Unrecorded.{open_unaborted}
use Rattle.proc_sections.proofs.undoing.undo_savepoint.Goals as goal

pub undo-requires-clause-id_open : goal.undo-requires-clause-id_open
undo-requires-clause-id_open g c =
    let e = c.enter_proc-held.ensures in
    let s = c.args.caller.now.session in
    let n = c.args.caller.now.number in
    let u = view c.enter_proc-held.new.caller.pass in
    let a = subst (λ (z : ℕ × Session). IsAt (start_of c.args.hall.now) u z.0 z.1) (λ j. (e.same.1 j, e.same.0 j)) e.at in
    let sp = savepoint_of (history u.seen) s.levels.open_ids.items s.levels.level_ids.items s.levels.unnamed c.args.id c.requires.savepoint c.requires.innermost a.stands.nest in
    subst (λ (z : List Event). Contains (open_ids n z) c.args.id) (sym (subst (λ l. ProcStands (start_of c.args.hall.now) l (at (view c.enter_proc-held.new.caller.pass).seen proc_lock)) (sym c.deref_mut-table.ensures.value) c.enter_proc-held.ensures.stands).events) (subst (λ (l : List ℕ). Contains l c.args.id) (sym a.stands.opened) sp.0)

pub undo-requires-clause-id_sub : goal.undo-requires-clause-id_sub
undo-requires-clause-id_sub g c =
    let e = c.enter_proc-held.ensures in
    let s = c.args.caller.now.session in
    let u = view c.enter_proc-held.new.caller.pass in
    let a = subst (λ (z : ℕ × Session). IsAt (start_of c.args.hall.now) u z.0 z.1) (λ j. (e.same.1 j, e.same.0 j)) e.at in
    let sp = savepoint_of (history u.seen) s.levels.open_ids.items s.levels.level_ids.items s.levels.unnamed c.args.id c.requires.savepoint c.requires.innermost a.stands.nest in
    subst (λ (z : List Event). is_top z c.args.id ≡ false) (sym (subst (λ l. ProcStands (start_of c.args.hall.now) l (at (view c.enter_proc-held.new.caller.pass).seen proc_lock)) (sym c.deref_mut-table.ensures.value) c.enter_proc-held.ensures.stands).events) sp.1

pub undo-requires-clause-ids : goal.undo-requires-clause-ids
undo-requires-clause-ids g c =
    let e = c.enter_proc-held.ensures in
    let s = c.args.caller.now.session in
    let n = c.args.caller.now.number in
    let id = c.args.id in
    let from = c.place_of-from.result in
    let u = view c.enter_proc-held.new.caller.pass in
    let h = history u.seen in
    let a = subst (λ (z : ℕ × Session). IsAt (start_of c.args.hall.now) u z.0 z.1) (λ j. (e.same.1 j, e.same.0 j)) e.at in
    let sp = savepoint_of h s.levels.open_ids.items s.levels.level_ids.items s.levels.unnamed id c.requires.savepoint c.requires.innermost a.stands.nest in
    let cut : drop from s.levels.open_ids.items ≡ filter (λ x. nat_le id x) s.levels.open_ids.items = subst (λ (l : List ℕ). drop from l ≡ filter (λ x. nat_le id x) l) c.deref.ensures.value c.place_of-from.ensures.from in
    take_rest c.deref-2.result.now from
    ∙ (ap (drop from) (c.deref-2.ensures.value ∙ ap (λ (z : Session). z.levels.open_ids.items) e.same.0)
    ∙ (cut
    ∙ (sym (inside_from h s.levels.open_ids.items id sp)
    ∙ (ap (filter (is_inside h id)) (sym a.stands.opened)
    ∙ ap (λ (z : List Event). filter (is_inside z id) (open_ids n z)) (sym (subst (λ l. ProcStands (start_of c.args.hall.now) l (at (view c.enter_proc-held.new.caller.pass).seen proc_lock)) (sym c.deref_mut-table.ensures.value) c.enter_proc-held.ensures.stands).events)))))

pub leave_proc-requires-clause-may : goal.leave_proc-requires-clause-may
leave_proc-requires-clause-may g c =
    let e = c.enter_proc-held.ensures in
    let start = start_of c.args.hall.now in
    let s = c.args.caller.now.session in
    let n = c.args.caller.now.number in
    let u = view c.enter_proc-held.new.caller.pass in
    let a = subst (λ (z : ℕ × Session). IsAt start u z.0 z.1) (λ j. (e.same.1 j, e.same.0 j)) e.at in
    let sp = savepoint_of (history u.seen) s.levels.open_ids.items s.levels.level_ids.items s.levels.unnamed c.args.id c.requires.savepoint c.requires.innermost a.stands.nest in
    may_add_undo start u.seen (by_at n s.levels.commands) s.levels.open_ids.items c.args.id c.undo_note-entry.result.value c.undo_note-entry.ensures e.entered.shown a.stands.opened sp (a.clear (ap may_be_recorded c.requires.pending)) (open_unaborted u.seen n s.levels.open_ids.items a.stands.opened (a.unaborted (ap may_be_aborted c.requires.pending)))
    (λ x k past. marked_grows start (view c.args.caller.now.pass).seen u.seen x states.Aborted (entered_grows start (view c.args.caller.now.pass) u n s c.requires.may.ready.at e.entered) (c.requires.aborted x k past)) (a.turns proc_lock)

pub leave_proc-requires-clause-stands : goal.leave_proc-requires-clause-stands
leave_proc-requires-clause-stands g c =
    let by = by_at c.args.caller.now.number c.args.caller.now.session.levels.commands in
    let es = at (view c.enter_proc-held.new.caller.pass).seen proc_lock in
    subst (λ (d : Entry). ProcStands (start_of c.args.hall.now) c.undo.new.self (es ++ d ∷ [])) (sym c.undo_note-entry.ensures)
    (proc_adds (start_of c.args.hall.now) c.deref_mut-table.result.now c.undo.new.self es by (events.Undo by c.args.id) (subst (λ l. ProcStands (start_of c.args.hall.now) l (at (view c.enter_proc-held.new.caller.pass).seen proc_lock)) (sym c.deref_mut-table.ensures.value) c.enter_proc-held.ensures.stands) c.undo.ensures)

pub returns-clause-may : goal.returns-clause-may
returns-clause-may g c =
    let e = c.enter_proc-held.ensures in
    let start = start_of c.args.hall.now in
    let s = c.args.caller.now.session in
    let n = c.args.caller.now.number in
    let id = c.args.id in
    let from = c.place_of-from.result in
    let by = by_at n s.levels.commands in
    let v = view c.args.caller.now.pass in
    let u = view c.enter_proc-held.new.caller.pass in
    let w = view c.leave_proc.new.caller.pass in
    let l = c.leave_proc.ensures.same in
    let a = subst (λ (z : ℕ × Session). IsAt start u z.0 z.1) (λ j. (e.same.1 j, e.same.0 j)) e.at in
    let cut : take from s.levels.open_ids.items ≡ filter (λ x. not (nat_le id x)) s.levels.open_ids.items = subst (λ (l : List ℕ). take from l ≡ filter (λ x. not (nat_le id x)) l) c.deref.ensures.value c.place_of-from.ensures.before in
    let long : (vec_len c.leave_proc.new.caller.session.levels.level_ids - 1) + 1 ≡ length c.leave_proc.new.caller.session.levels.level_ids.items =
    let two : 2 ≤ length c.leave_proc.new.caller.session.levels.level_ids.items = subst (λ (z : Session). 2 ≤ length z.levels.level_ids.items) (sym (c.leave_proc.ensures.same.0 ∙ e.same.0)) c.requires.savepoint in
    omega (arith, two) in
    let gone = undone_is id from (vec_len c.leave_proc.new.caller.session.levels.level_ids - 1) s c.leave_proc.new.caller.session _ (l.0 ∙ e.same.0) long c.requires.savepoint c.requires.innermost cut c.pop-id.ensures.rest refl c.truncate.ensures.items refl refl refl c.still_unlinked-caller.ensures refl in
    let went = proc_event start v u w by s (undo_entry by id) (events.Undo by id) c.requires.may.ready.at e.entered refl refl refl (subst (λ (d : Entry). Leaves start proc_lock d u w) c.undo_note-entry.ensures c.leave_proc.ensures.left) in
    let number = l.1 ∙ e.same.1 in
    call_undone start v w n c.leave_proc.new.caller.number s _ id c.requires.may c.requires.pending c.requires.innermost went.asks gone number
    (ready_undone_at start u w n c.leave_proc.new.caller.number s _ id c.undo_note-entry.result.value a c.undo_note-entry.ensures c.requires.pending c.requires.savepoint gone c.leave_proc.ensures.left number)

pub returns-clause-undone : goal.returns-clause-undone
returns-clause-undone g c =
    let e = c.enter_proc-held.ensures in
    let start = start_of c.args.hall.now in
    let s = c.args.caller.now.session in
    let n = c.args.caller.now.number in
    let id = c.args.id in
    let from = c.place_of-from.result in
    let by = by_at n s.levels.commands in
    let v = view c.args.caller.now.pass in
    let u = view c.enter_proc-held.new.caller.pass in
    let w = view c.leave_proc.new.caller.pass in
    let cut : take from s.levels.open_ids.items ≡ filter (λ x. not (nat_le id x)) s.levels.open_ids.items = subst (λ (l : List ℕ). take from l ≡ filter (λ x. not (nat_le id x)) l) c.deref.ensures.value c.place_of-from.ensures.before in
    let long : (vec_len c.leave_proc.new.caller.session.levels.level_ids - 1) + 1 ≡ length c.leave_proc.new.caller.session.levels.level_ids.items =
    let two : 2 ≤ length c.leave_proc.new.caller.session.levels.level_ids.items = subst (λ (z : Session). 2 ≤ length z.levels.level_ids.items) (sym (c.leave_proc.ensures.same.0 ∙ e.same.0)) c.requires.savepoint in
    omega (arith, two) in
    record {
      went = proc_event start v u w by s (undo_entry by id) (events.Undo by id) c.requires.may.ready.at e.entered refl refl refl (subst (λ (d : Entry). Leaves start proc_lock d u w) c.undo_note-entry.ensures c.leave_proc.ensures.left);
      session = undone_is id from (vec_len c.leave_proc.new.caller.session.levels.level_ids - 1) s c.leave_proc.new.caller.session _ (c.leave_proc.ensures.same.0 ∙ e.same.0) long c.requires.savepoint c.requires.innermost cut c.pop-id.ensures.rest refl c.truncate.ensures.items refl refl refl c.still_unlinked-caller.ensures refl;
    }
