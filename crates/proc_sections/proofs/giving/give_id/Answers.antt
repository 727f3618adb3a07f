use Rattle.std.proofs.Common.{◌++◌, ◌∷◌, [], ◌≤◌, ℕ, arith, ap, ◌∙◌, subst, sym, refl, List, Ok, IsTrue, ◌↔◌, inl, inr, ⊎_elim, Option}
use Rattle.hall.specs.Calls.{view, start_of}
use Rattle.notes.specs.Lists.{at}
use Rattle.tx_events.specs.Limits.{warn_limit}
use Rattle.tx_events.specs.declared.event.Event.{Event}
use Rattle.tx_events.specs.declared.record.Counters.{Counters}
use Rattle.tx_events.specs.History.{IsNextGiven, next_given}
use Rattle.tx_events.specs.Horizon.{oldest_id}
use Rattle.tx_model.specs.CommandEvents.{giving}
use Rattle.tx_core.specs.Entries.{history}
use Rattle.tx_core.specs.Locks.{proc_lock}
use Rattle.proc_table.specs.Table.{IsGiven, Table}
use Rattle.session_levels.specs.Stands.{IsParent, last_of}
use Rattle.session_levels.proofs.GivingLemmas.{is_parent, may_give}
use Rattle.engine_parts.specs.declared.session.Session.{Session}
use Rattle.engine_parts.specs.Sessions.{by_at, inner_id, look_by}
use Rattle.engine_parts.specs.Stand.{ProcStands}
use Rattle.engine_parts.specs.Steps.{WentOn}
use Rattle.engine_parts.proofs.Leaving.{history_event, history_same}
use Rattle.engine_parts.proofs.Tabling.{proc_adds, proc_looks}
use Rattle.proc_sections.specs.Givings.{GivesId, IsNamed, IsStopIn, GiveSection}
use Rattle.proc_sections.proofs.Making.{made_here, need_page, untold}
use Rattle.proc_sections.proofs.Naming.{call_given, giving_by, giving_entry}
use Rattle.engine_parts.proofs.Sectioning.{entered_grows, entered_rest, proc_call, proc_event, proc_quiet, proc_section_of, same_command}
use Rattle.engine_parts.specs.Faults.{look_of}
use Rattle.proc_sections.proofs.giving.give_id.Goals as goal

pub next_id-requires-clause-parent : goal.next_id-requires-clause-parent
next_id-requires-clause-parent g c =
    let e = c.enter_proc-held.ensures in
    let u = c.enter_proc-held.new.caller in
    let p : IsParent u.number (history (view u.pass).seen) (last_of u.session.levels.level_ids.items) = is_parent (history (view u.pass).seen) u.number u.session.levels.open_ids.items u.session.levels.level_ids.items e.at.stands.opened e.at.stands.nest in
    subst (λ (z : (ℕ × List Event) × Option ℕ). IsParent z.0.0 z.0.1 z.1) (λ j. ((e.same.1 j, sym (subst (λ l. ProcStands (start_of c.args.hall.now) l (at (view c.enter_proc-held.new.caller.pass).seen proc_lock)) (sym c.deref_mut-table.ensures.value) c.enter_proc-held.ensures.stands).events j), (ap (λ (z : Session). last_of z.levels.level_ids.items) e.same.0 ∙ sym c.innermost_id-parent.ensures) j)) p

pub name_level-requires-clause-may : goal.name_level-requires-clause-may
name_level-requires-clause-may g c =
    let e = c.enter_proc-held.ensures in
    let start = start_of c.args.hall.now in
    let u = c.enter_proc-held.new.caller in
    let by = by_at c.args.caller.now.number c.args.caller.now.session.levels.commands in
    let par = c.innermost_id-parent.result in
    let i = subst (IsGiven c.deref_mut-table.result.now c.next_id.new.table (λ id. giving by par id)) c.in-Id.is c.in-Ok.ensures in
    let p : IsParent u.number (history (view u.pass).seen) (last_of u.session.levels.level_ids.items) = is_parent (history (view u.pass).seen) u.number u.session.levels.open_ids.items u.session.levels.level_ids.items e.at.stands.opened e.at.stands.nest in
    may_give start.base (history (view u.pass).seen) by par c.in-Id.id
    (subst (λ (z : Counters × List Event). IsNextGiven z.0 z.1 c.in-Id.id) (λ j. ((subst (λ l. ProcStands (start_of c.args.hall.now) l (at (view c.enter_proc-held.new.caller.pass).seen proc_lock)) (sym c.deref_mut-table.ensures.value) c.enter_proc-held.ensures.stands).base j, (subst (λ l. ProcStands (start_of c.args.hall.now) l (at (view c.enter_proc-held.new.caller.pass).seen proc_lock)) (sym c.deref_mut-table.ensures.value) c.enter_proc-held.ensures.stands).events j)) (record { next = i.0; below_stop = i.2 }))
    (subst (λ (z : ℕ × Option ℕ). IsParent z.0 (history (view u.pass).seen) z.1) (λ j. (e.same.1 j, (ap (λ (z : Session). last_of z.levels.level_ids.items) e.same.0 ∙ sym c.innermost_id-parent.ensures) j)) p)

pub name_level-requires-clause-made : goal.name_level-requires-clause-made
name_level-requires-clause-made g c =
    let e = c.enter_proc-held.ensures in
    let by = by_at c.args.caller.now.number c.args.caller.now.session.levels.commands in
    let i = subst (IsGiven c.deref_mut-table.result.now c.next_id.new.table (λ id. giving by c.innermost_id-parent.result id)) c.in-Id.is c.in-Ok.ensures in
    made_here (start_of c.args.hall.now) (view c.enter_proc-held.new.caller.pass).seen c.deref_mut-table.result.now c.in-Id.id e.entered.kept (subst (λ l. ProcStands (start_of c.args.hall.now) l (at (view c.enter_proc-held.new.caller.pass).seen proc_lock)) (sym c.deref_mut-table.ensures.value) c.enter_proc-held.ensures.stands) i.0 i.1

pub name_level-requires-clause-table : goal.name_level-requires-clause-table
name_level-requires-clause-table g c =
    let by = by_at c.args.caller.now.number c.args.caller.now.session.levels.commands in
    let par = c.innermost_id-parent.result in
    let i = subst (IsGiven c.deref_mut-table.result.now c.next_id.new.table (λ id. giving by par id)) c.in-Id.is c.in-Ok.ensures in
    proc_adds (start_of c.args.hall.now) c.deref_mut-table.result.now c.next_id.new.table (at (view c.enter_proc-held.new.caller.pass).seen proc_lock) by (giving by par c.in-Id.id) (subst (λ l. ProcStands (start_of c.args.hall.now) l (at (view c.enter_proc-held.new.caller.pass).seen proc_lock)) (sym c.deref_mut-table.ensures.value) c.enter_proc-held.ensures.stands) i.4

-- refused
pub leave_looked-requires-clause-stands : goal.leave_looked-requires-clause-stands
leave_looked-requires-clause-stands g c =
    let e = c.enter_proc-held.ensures in
    let u = c.enter_proc-held.new.caller in
    let es = at (view u.pass).seen proc_lock in
    (refl, proc_looks (start_of c.args.hall.now) c.next_id.new.table es (by_at u.number u.session.levels.commands) (subst (λ (t : Table). ProcStands (start_of c.args.hall.now) t es) (sym c.in-Err.ensures.0) (subst (λ l. ProcStands (start_of c.args.hall.now) l (at (view c.enter_proc-held.new.caller.pass).seen proc_lock)) (sym c.deref_mut-table.ensures.value) c.enter_proc-held.ensures.stands)))

pub returns-in-Err-clause-may : goal.returns-in-Err-clause-may
returns-in-Err-clause-may g c =
    let e = c.enter_proc-held.ensures in
    let r = c.leave_looked.ensures in
    let wide = c.requires.may.ready.at.wide in
    let same = r.same.0 ∙ e.same.0 in
    proc_call (start_of c.args.hall.now) (view c.args.caller.now.pass) (view c.enter_proc-held.new.caller.pass) (view c.leave_looked.new.caller.pass) c.args.caller.now.number c.leave_looked.new.caller.number c.args.caller.now.session c.leave_looked.new.caller.session _
    c.requires.may e.entered r.left refl (ap (λ (z : Session). inner_id z) same) (ap (λ (z : Session). z.levels.open_ids.items) same) (ap (λ (z : Session). z.stage) same) (r.same.1 ∙ e.same.1) r.ready

pub returns-in-Err-clause-gives : goal.returns-in-Err-clause-gives
returns-in-Err-clause-gives g c =
    let e = c.enter_proc-held.ensures in
    let l = c.leave_looked.ensures.left in
    let start = start_of c.args.hall.now in
    let u = view c.enter_proc-held.new.caller.pass in
    let w = view c.leave_looked.new.caller.pass in
    let wide = c.requires.may.ready.at.wide in
    let long = e.entered.long in
    let still = history_same start u w proc_lock _ refl (omega arith) l in
    let st = (subst (λ l. ProcStands (start_of c.args.hall.now) l (at (view c.enter_proc-held.new.caller.pass).seen proc_lock)) (sym c.deref_mut-table.ensures.value) c.enter_proc-held.ensures.stands) in (
      proc_quiet start (view c.args.caller.now.pass) u w c.args.caller.now.number c.args.caller.now.session _ c.requires.may.ready.at e.entered refl refl refl l,
      c.leave_looked.ensures.same.0 ∙ e.same.0,
      ⊎_elim (λ m. inl m.1) (λ m. inr (subst (λ (z : Counters × List Event). IsStopIn z.0 z.1 c.in-Err.refusal) (λ j. (st.base j, (st.events ∙ sym still) j)) m)) c.in-Err.ensures.2,
    )

-- given
pub returns-in-Id-clause-may : goal.returns-in-Id-clause-may
returns-in-Id-clause-may g c =
    let start = start_of c.args.hall.now in
    let e = c.enter_proc-held.ensures in
    let s = c.args.caller.now.session in
    let by = by_at c.args.caller.now.number s.levels.commands in
    let par = c.innermost_id-parent.result in
    let i = subst (IsGiven c.deref_mut-table.result.now c.next_id.new.table (λ id. giving by par id)) c.in-Id.is c.in-Ok.ensures in
    let v = view c.args.caller.now.pass in
    let u = view c.enter_proc-held.new.caller.pass in
    let w = view c.name_level.new.caller.pass in
    let m = c.name_level.ensures in
    let named : IsNamed s c.name_level.new.caller.session c.in-Id.id = subst (λ (z : Session). IsNamed z c.name_level.new.caller.session c.in-Id.id) e.same.0 m.named in
    call_given start v u w c.args.caller.now.number c.name_level.new.caller.number s c.name_level.new.caller.session c.in-Id.id c.requires.may c.requires.clear (entered_grows start v u c.args.caller.now.number s c.requires.may.ready.at e.entered) (i.0 ∙ (λ j. next_given ((subst (λ l. ProcStands (start_of c.args.hall.now) l (at (view c.enter_proc-held.new.caller.pass).seen proc_lock)) (sym c.deref_mut-table.ensures.value) c.enter_proc-held.ensures.stands).base j).next ((subst (λ l. ProcStands (start_of c.args.hall.now) l (at (view c.enter_proc-held.new.caller.pass).seen proc_lock)) (sym c.deref_mut-table.ensures.value) c.enter_proc-held.ensures.stands).events j)))
    (proc_event start v u w by s (giving_entry by par c.in-Id.id) (giving by par c.in-Id.id) c.requires.may.ready.at e.entered refl (giving_by by par c.in-Id.id) refl m.left).asks
    named (m.number ∙ e.same.1) m.ready

pub returns-in-Id-clause-gives : goal.returns-in-Id-clause-gives
returns-in-Id-clause-gives g c =
    let start = start_of c.args.hall.now in
    let e = c.enter_proc-held.ensures in
    let st = (subst (λ l. ProcStands (start_of c.args.hall.now) l (at (view c.enter_proc-held.new.caller.pass).seen proc_lock)) (sym c.deref_mut-table.ensures.value) c.enter_proc-held.ensures.stands) in
    let s = c.args.caller.now.session in
    let n = c.args.caller.now.number in
    let by = by_at n s.levels.commands in
    let par = c.innermost_id-parent.result in
    let event : Event = giving by par c.in-Id.id in
    let i = subst (IsGiven c.deref_mut-table.result.now c.next_id.new.table (λ id. giving by par id)) c.in-Id.is c.in-Ok.ensures in
    let m = c.name_level.ensures in
    let wide = c.requires.may.ready.at.wide in
    let long = e.entered.long in
    let v = view c.args.caller.now.pass in
    let u = view c.enter_proc-held.new.caller.pass in
    let w = view c.name_level.new.caller.pass in
    let below = c.innermost_id-parent.ensures in
    let r = entered_rest start v u n s c.requires.may.ready.at e.entered in
    let named : IsNamed s c.name_level.new.caller.session c.in-Id.id = subst (λ (z : Session). IsNamed z c.name_level.new.caller.session c.in-Id.id) e.same.0 m.named in
    subst (GivesId start n s c.name_level.new.caller.session v.seen w.seen) (ap Ok (sym c.in-Id.is)) (
      subst (λ (p : Option ℕ). WentOn n (giving by p c.in-Id.id ∷ []) v.seen w.seen) below
          (proc_event start v u w by s (giving_entry by par c.in-Id.id) event c.requires.may.ready.at e.entered refl (giving_by by par c.in-Id.id) refl m.left),
      record {
        rest = r.rest;
        beside = r.beside;
        after = history_event start u w (giving_entry by par c.in-Id.id) event refl (omega arith) m.left ∙ (λ j. sym r.split j ++ giving by (below j) c.in-Id.id ∷ []);
        late = subst (λ (z : Counters × List Event). IsTrue c.in-Id.warn ↔ (warn_limit (oldest_id z.0.oldest z.1) ≤ c.in-Id.id)) (λ j. (st.base j, (st.events ∙ sym r.split) j)) i.3;
      },
      named,
    )

-- its pages are wanted
pub leave_looked-requires-2-clause-stands : goal.leave_looked-requires-2-clause-stands
leave_looked-requires-2-clause-stands g c =
    let e = c.enter_proc-held.ensures in
    let u = c.enter_proc-held.new.caller in
    let es = at (view u.pass).seen proc_lock in
    let by = by_at c.args.caller.now.number c.args.caller.now.session.levels.commands in
    let p = need_page c.deref_mut-table.result.now c.next_id.new.table (λ id. giving by c.innermost_id-parent.result id) c.in-Ok.given c.in-Ok.ensures c.in_default.not-Id in
    (refl, proc_looks (start_of c.args.hall.now) c.next_id.new.table es (by_at u.number u.session.levels.commands) (subst (λ (t : Table). ProcStands (start_of c.args.hall.now) t es) (sym p.4) (subst (λ l. ProcStands (start_of c.args.hall.now) l (at (view c.enter_proc-held.new.caller.pass).seen proc_lock)) (sym c.deref_mut-table.ensures.value) c.enter_proc-held.ensures.stands)))

pub returns-clause-may : goal.returns-clause-may
returns-clause-may g c =
    let e = c.enter_proc-held.ensures in
    let r = c.leave_looked-2.ensures in
    let wide = c.requires.may.ready.at.wide in
    let same = r.same.0 ∙ e.same.0 in
    proc_call (start_of c.args.hall.now) (view c.args.caller.now.pass) (view c.enter_proc-held.new.caller.pass) (view c.leave_looked-2.new.caller.pass) c.args.caller.now.number c.leave_looked-2.new.caller.number c.args.caller.now.session c.leave_looked-2.new.caller.session _
    c.requires.may e.entered r.left refl (ap (λ (z : Session). inner_id z) same) (ap (λ (z : Session). z.levels.open_ids.items) same) (ap (λ (z : Session). z.stage) same) (r.same.1 ∙ e.same.1) r.ready

pub returns-clause-gives : goal.returns-clause-gives
returns-clause-gives g c =
    let start = start_of c.args.hall.now in
    let e = c.enter_proc-held.ensures in
    let st = (subst (λ l. ProcStands (start_of c.args.hall.now) l (at (view c.enter_proc-held.new.caller.pass).seen proc_lock)) (sym c.deref_mut-table.ensures.value) c.enter_proc-held.ensures.stands) in
    let s = c.args.caller.now.session in
    let by = by_at c.args.caller.now.number s.levels.commands in
    let par = c.innermost_id-parent.result in
    let v = view c.args.caller.now.pass in
    let u = view c.enter_proc-held.new.caller.pass in
    let w = view c.leave_looked-2.new.caller.pass in
    let wide = c.requires.may.ready.at.wide in
    let long = e.entered.long in
    let l = c.leave_looked-2.ensures.left in
    let still = history_same start u w proc_lock _ refl (omega arith) l in
    let p = need_page c.deref_mut-table.result.now c.next_id.new.table (λ id. giving by par id) c.in-Ok.given c.in-Ok.ensures c.in_default.not-Id in
    subst (GivesId start c.args.caller.now.number s c.leave_looked-2.new.caller.session v.seen w.seen) (ap Ok (sym p.1)) (
      proc_quiet start v u w c.args.caller.now.number s _ c.requires.may.ready.at e.entered refl refl refl l,
      p.2 ∙ (λ j. next_given (st.base j).next ((st.events ∙ sym still) j)),
      λ told. untold start c.deref_mut-table.result.now u w p.0 _ (omega arith) refl l st p.3 told,
      c.leave_looked-2.ensures.same.0 ∙ e.same.0,
    )

-- the critical section
pub returns-in-Err-clause-section : goal.returns-in-Err-clause-section
returns-in-Err-clause-section g c =
    let e = c.enter_proc-held.ensures in
    let t = c.enter_proc-held.new.caller in
    let s = c.args.caller.now.session in
    let n = c.args.caller.now.number in
    proc_section_of (start_of c.args.hall.now) (view c.args.caller.now.pass) (view t.pass) (view c.leave_looked.new.caller.pass) (look_by t.number t.session) (look_by n s) e.entered (ap look_of (same_command n t.number s t.session e.same.1 e.same.0)) c.leave_looked.ensures.left

pub returns-in-Id-clause-section : goal.returns-in-Id-clause-section
returns-in-Id-clause-section g c =
    let start = start_of c.args.hall.now in
    let e = c.enter_proc-held.ensures in
    let s = c.args.caller.now.session in
    let n = c.args.caller.now.number in
    let by = by_at n s.levels.commands in
    let v = view c.args.caller.now.pass in
    let u = view c.enter_proc-held.new.caller.pass in
    let w = view c.name_level.new.caller.pass in
    let par = c.innermost_id-parent.result in
    subst (GiveSection start n s v w) (ap Ok (sym c.in-Id.is))
    (proc_section_of start v u w (giving_entry by par c.in-Id.id) (giving_entry by (last_of s.levels.level_ids.items) c.in-Id.id) e.entered (ap (λ (p : Option ℕ). giving_entry by p c.in-Id.id) c.innermost_id-parent.ensures) c.name_level.ensures.left)

pub returns-clause-section : goal.returns-clause-section
returns-clause-section g c =
    let start = start_of c.args.hall.now in
    let e = c.enter_proc-held.ensures in
    let t = c.enter_proc-held.new.caller in
    let s = c.args.caller.now.session in
    let n = c.args.caller.now.number in
    let v = view c.args.caller.now.pass in
    let w = view c.leave_looked-2.new.caller.pass in
    let p = need_page c.deref_mut-table.result.now c.next_id.new.table (λ id. giving (by_at n s.levels.commands) c.innermost_id-parent.result id) c.in-Ok.given c.in-Ok.ensures c.in_default.not-Id in
    subst (GiveSection start n s v w) (ap Ok (sym p.1))
    (proc_section_of start v (view t.pass) w (look_by t.number t.session) (look_by n s) e.entered (ap look_of (same_command n t.number s t.session e.same.1 e.same.0)) c.leave_looked-2.ensures.left)
