use Rattle.std.proofs.Common.{◌≡◌, ap, ◌∙◌, subst, sym, refl, List, [], ◌∷◌, ◌++◌, false, map, None}
use Rattle.hall.specs.Calls.{view, start_of}
use Rattle.notes.specs.Lists.{at}
use Rattle.tx_events.specs.declared.event.Event.{Event}
use Rattle.tx_events.specs.declared.event.Event.TheVariants as events
use Rattle.tx_events.specs.declared.record.Counters.{Counters}
use Rattle.tx_events.specs.declared.refusal.Refusal.TheVariants as refusals
use Rattle.tx_events.specs.Horizon.{is_live}
use Rattle.tx_events.specs.Snapshots.{snapshot_data}
use Rattle.tx_model.specs.declared.command.Command.TheVariants as commands
use Rattle.tx_model.specs.declared.reply.Reply.TheVariants as replies
use Rattle.tx_core.specs.Locks.{proc_lock}
use Rattle.tx_model.specs.CommandEvents.{innermost}
use Rattle.tx_model.specs.Stance.{Stance}
use Rattle.session_levels.specs.Stands.{told_of, levels_of}
use Rattle.engine_parts.specs.Sessions.{by_at, inner_id, stance_of}
use Rattle.engine_parts.specs.Stand.{ProcStands}
use Rattle.engine_parts.proofs.Acting.{acted_looked, acted_refused}
use Rattle.engine_parts.proofs.Sectioning.{proc_call}
use Rattle.engine_parts.proofs.Tabling.{proc_adds, proc_looks}
use Rattle.proc_table.specs.Table.{Table}
use Rattle.xact_engine.proofs.Snapping.{acted_snapped, call_reserved, free_here, not_refused, snap_entry}
use Rattle.engine_parts.proofs.Beholding.{not_standing}
use Rattle.engine_parts.proofs.KeptMaking.{kept_making}
use Rattle.engine_parts.specs.Makings.{has_more_multis}
use Rattle.xact_engine.proofs.snapshots.take.Goals as goal

pub take_of-requires-clause-free : goal.take_of-requires-clause-free
take_of-requires-clause-free g c =
    let e = c.enter_proc-held.ensures in
    let free = free_here (start_of c.args.hall.now) (view c.enter_proc-held.new.caller.pass) c.args.caller.now.number c.enter_proc-held.new.caller.number c.enter_proc-held.new.caller.session c.args.caller.now.session.levels.registered.items c.args.name.now e.at e.same.1 (ap (λ z. z.levels.registered.items) e.same.0 ∙ c.in-Ok.ensures.items) c.requires.free in
    subst (λ (z : Counters × List Event). is_live z.0.next c.args.caller.now.number c.args.name.now z.1 ≡ false) (λ j. (sym (subst (λ l. ProcStands (start_of c.args.hall.now) l (at (view c.enter_proc-held.new.caller.pass).seen proc_lock)) (sym c.deref_mut.ensures.value) c.enter_proc-held.ensures.stands).base j, sym (subst (λ l. ProcStands (start_of c.args.hall.now) l (at (view c.enter_proc-held.new.caller.pass).seen proc_lock)) (sym c.deref_mut.ensures.value) c.enter_proc-held.ensures.stands).events j)) free

pub register-requires-clause-free : goal.register-requires-clause-free
register-requires-clause-free g c =
    let e = c.enter_proc-held.ensures in
    free_here (start_of c.args.hall.now) (view c.enter_proc-held.new.caller.pass) c.args.caller.now.number c.enter_proc-held.new.caller.number c.enter_proc-held.new.caller.session c.args.caller.now.session.levels.registered.items c.args.name.now e.at e.same.1 (ap (λ z. z.levels.registered.items) e.same.0 ∙ c.in-Ok.ensures.items) c.requires.free

pub register-requires-clause-table : goal.register-requires-clause-table
register-requires-clause-table g c =
    let by = by_at c.args.caller.now.number c.args.caller.now.session.levels.commands in
    let es = at (view c.enter_proc-held.new.caller.pass).seen proc_lock in
    (proc_adds (start_of c.args.hall.now) c.deref_mut.result.now c.take_of.new.table es by (events.Snap c.args.name.now by) (subst (λ l. ProcStands (start_of c.args.hall.now) l (at (view c.enter_proc-held.new.caller.pass).seen proc_lock)) (sym c.deref_mut.ensures.value) c.enter_proc-held.ensures.stands) c.in-Ok-take_of.ensures.adds)

pub returns-in_default : goal.returns-in_default
returns-in_default g c =
    let s = c.args.caller.now.session in record {
      own = c.requires.own;
      may = call_reserved (start_of c.args.hall.now) (view c.args.caller.now.pass) c.args.caller.now.number s (record s.levels { registered = c.reserve.new.self }) refl c.reserve.ensures.items c.requires.may;
      acted = acted_refused (start_of c.args.hall.now) (view c.args.caller.now.pass).seen _ c.args.caller.now.number s.levels.commands (stance_of s) _ s.stage (commands.Snap c.args.name.now) refusals.Memory refl (ap (λ z. record { levels = levels_of s.levels.level_ids.items s.levels.unnamed; snaps = map told_of z }) c.reserve.ensures.items) refl refl refl (sym (not_refused s c.args.name.now c.requires.free c.requires.room));
      stage = refl;
      held = tt;
      still = λ r is. refl;
      making = kept_making (commands.Snap c.args.name.now) (replies.Refused refusals.Memory) (has_more_multis c.args.caller.now.number (view c.args.caller.now.pass).seen (view c.args.caller.now.pass).seen) s.making s.making refl refl;
      count = (refl, refl);
    }

pub returns-in-Ok-take_of : goal.returns-in-Ok-take_of
returns-in-Ok-take_of g c =
    let e = c.enter_proc-held.ensures in
    let t = c.in-Ok-take_of.ensures in
    let s = c.args.caller.now.session in
    let by = by_at c.args.caller.now.number s.levels.commands in
    let stance : stance_of c.enter_proc-held.new.caller.session ≡ stance_of s = ap stance_of e.same.0 ∙ ap (λ z. record { levels = levels_of s.levels.level_ids.items s.levels.unnamed; snaps = map told_of z }) c.in-Ok.ensures.items in
    let r = c.register.ensures in
    let wide = c.requires.may.ready.at.wide in record {
      own = r.own;
      may = proc_call (start_of c.args.hall.now) (view c.args.caller.now.pass) (view c.enter_proc-held.new.caller.pass) (view c.register.new.caller.pass) c.args.caller.now.number c.register.new.caller.number c.args.caller.now.session c.register.new.caller.session _
          c.requires.may e.entered r.left refl (ap (λ (z : Stance). innermost z.levels) r.stance ∙ ap (λ z. inner_id z) e.same.0) (r.opened ∙ ap (λ z. z.levels.open_ids.items) e.same.0) (r.stage ∙ ap (λ z. z.stage) e.same.0) (r.count.1 ∙ e.same.1) r.ready;
      acted = acted_snapped (start_of c.args.hall.now) (view c.args.caller.now.pass) (view c.enter_proc-held.new.caller.pass) (view c.register.new.caller.pass) c.args.caller.now.number s (stance_of c.register.new.caller.session) c.args.name.now c.in-Ok-take_of.lists (snap_entry by c.args.name.now)
          c.requires.may.ready.at e.entered refl c.register.ensures.left c.requires.free c.requires.room
          (t.lists_are ∙ (λ j. snapshot_data ((subst (λ l. ProcStands (start_of c.args.hall.now) l (at (view c.enter_proc-held.new.caller.pass).seen proc_lock)) (sym c.deref_mut.ensures.value) c.enter_proc-held.ensures.stands).base j).next ((subst (λ l. ProcStands (start_of c.args.hall.now) l (at (view c.enter_proc-held.new.caller.pass).seen proc_lock)) (sym c.deref_mut.ensures.value) c.enter_proc-held.ensures.stands).events j)))
          (c.register.ensures.stance ∙ (λ j. record (stance j) { snaps = (stance j).snaps ++ (c.args.name.now, (e.same.0 j).levels.commands) ∷ [] }));
      stage = r.stage ∙ ap (λ z. z.stage) e.same.0;
      held = tt;
      still = λ q is. not_standing None q refl is;
      making = kept_making (commands.Snap c.args.name.now) (replies.Snapped c.in-Ok-take_of.lists) (has_more_multis c.args.caller.now.number (view c.args.caller.now.pass).seen (view c.register.new.caller.pass).seen) s.making c.register.new.caller.session.making refl (r.making ∙ ap (λ z. z.making) e.same.0);
      count = (r.count.0 ∙ ap (λ z. z.levels.commands) e.same.0, r.count.1 ∙ e.same.1);
    }

pub returns-in-Err : goal.returns-in-Err
returns-in-Err g c =
    let e = c.enter_proc-held.ensures in
    let s = c.args.caller.now.session in
    let stance : stance_of c.leave_looked.new.caller.session ≡ stance_of s = ap stance_of c.leave_looked.ensures.same.0 ∙ (ap stance_of e.same.0 ∙ ap (λ z. record { levels = levels_of s.levels.level_ids.items s.levels.unnamed; snaps = map told_of z }) c.in-Ok.ensures.items) in
    let wide = c.requires.may.ready.at.wide in
    let r = c.leave_looked.ensures in record {
      own = r.own;
      may = proc_call (start_of c.args.hall.now) (view c.args.caller.now.pass) (view c.enter_proc-held.new.caller.pass) (view c.leave_looked.new.caller.pass) c.args.caller.now.number c.leave_looked.new.caller.number c.args.caller.now.session c.leave_looked.new.caller.session _
          c.requires.may e.entered r.left refl (ap (λ z. inner_id z) r.same.0 ∙ ap (λ z. inner_id z) e.same.0) (ap (λ z. z.levels.open_ids.items) r.same.0 ∙ ap (λ z. z.levels.open_ids.items) e.same.0) (ap (λ z. z.stage) r.same.0 ∙ ap (λ z. z.stage) e.same.0) (r.same.1 ∙ e.same.1) r.ready;
      acted = acted_looked (start_of c.args.hall.now) (view c.args.caller.now.pass) (view c.enter_proc-held.new.caller.pass) (view c.leave_looked.new.caller.pass) c.args.caller.now.number s (stance_of c.leave_looked.new.caller.session) s.stage (commands.Snap c.args.name.now) (replies.Refused refusals.Memory) _
          c.requires.may.ready.at e.entered refl refl refl (λ j. by_at (e.same.1 j) (e.same.0 j).levels.commands) tt c.leave_looked.ensures.left refl refl refl (sym (not_refused s c.args.name.now c.requires.free c.requires.room)) (sym stance);
      stage = ap (λ z. z.stage) r.same.0 ∙ ap (λ z. z.stage) e.same.0;
      held = tt;
      still = λ q is. not_standing None q refl is;
      making = kept_making (commands.Snap c.args.name.now) (replies.Refused refusals.Memory) (has_more_multis c.args.caller.now.number (view c.args.caller.now.pass).seen (view c.leave_looked.new.caller.pass).seen) s.making c.leave_looked.new.caller.session.making refl (ap (λ z. z.making) r.same.0 ∙ ap (λ z. z.making) e.same.0);
      count = (ap (λ z. z.levels.commands) r.same.0 ∙ ap (λ z. z.levels.commands) e.same.0, r.same.1 ∙ e.same.1);
    }

pub leave_looked-requires-clause-stands : goal.leave_looked-requires-clause-stands
leave_looked-requires-clause-stands g c =
    let e = c.enter_proc-held.ensures in
    let n = c.enter_proc-held.new.caller.number in
    let s = c.enter_proc-held.new.caller.session in
    let es = at (view c.enter_proc-held.new.caller.pass).seen proc_lock in
    (refl, proc_looks (start_of c.args.hall.now) c.take_of.new.table es (by_at n s.levels.commands) (subst (λ (t : Table). ProcStands (start_of c.args.hall.now) t es) (sym c.in-Err.ensures) (subst (λ l. ProcStands (start_of c.args.hall.now) l (at (view c.enter_proc-held.new.caller.pass).seen proc_lock)) (sym c.deref_mut.ensures.value) c.enter_proc-held.ensures.stands)))
