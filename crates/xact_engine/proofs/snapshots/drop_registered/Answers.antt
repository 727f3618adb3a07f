use Rattle.engine_parts.specs.Stand.{ProcStands}
use Rattle.std.proofs.Common.{◌≡◌, ap, ◌∙◌, subst, sym, refl, List, true, None}
use Rattle.hall.specs.Calls.{view, start_of}
use Rattle.notes.specs.Lists.{at}
use Rattle.tx_events.specs.declared.event.Event.{Event}
use Rattle.tx_events.specs.declared.event.Event.TheVariants as events
use Rattle.tx_events.specs.declared.record.Counters.{Counters}
use Rattle.tx_events.specs.Horizon.{is_live}
use Rattle.tx_model.specs.CommandEvents.{innermost}
use Rattle.tx_model.specs.Stance.{Stance, without_snap}
use Rattle.tx_core.specs.Locks.{proc_lock}
use Rattle.engine_parts.specs.Sessions.{by_at, inner_id, stance_of}
use Rattle.engine_parts.proofs.Sectioning.{proc_call}
use Rattle.engine_parts.proofs.Tabling.{proc_adds}
use Rattle.xact_engine.proofs.Snapping.{acted_dropped, drop_entry, live_here}
use Rattle.engine_parts.proofs.Beholding.{not_standing}
use Rattle.tx_model.specs.declared.command.Command.TheVariants as commands
use Rattle.tx_model.specs.declared.reply.Reply.TheVariants as replies
use Rattle.engine_parts.proofs.KeptMaking.{kept_making}
use Rattle.engine_parts.specs.Makings.{has_more_multis}
use Rattle.xact_engine.proofs.snapshots.drop_registered.Goals as goal

pub drop_snapshot-requires-clause-registered : goal.drop_snapshot-requires-clause-registered
drop_snapshot-requires-clause-registered g c =
    let e = c.enter_proc-held.ensures in
    let live = live_here (start_of c.args.hall.now) (view c.enter_proc-held.new.caller.pass) c.args.caller.now.number c.enter_proc-held.new.caller.number c.enter_proc-held.new.caller.session c.args.caller.now.session.levels.registered.items c.args.name.now e.at e.same.1 (ap (λ z. z.levels.registered.items) e.same.0) ∙ c.requires.registered in
    subst (λ (z : Counters × List Event). is_live z.0.next c.args.caller.now.number c.args.name.now z.1 ≡ true) (λ j. (sym (subst (λ l. ProcStands (start_of c.args.hall.now) l (at (view c.enter_proc-held.new.caller.pass).seen proc_lock)) (sym c.deref_mut.ensures.value) c.enter_proc-held.ensures.stands).base j, sym (subst (λ l. ProcStands (start_of c.args.hall.now) l (at (view c.enter_proc-held.new.caller.pass).seen proc_lock)) (sym c.deref_mut.ensures.value) c.enter_proc-held.ensures.stands).events j)) live

pub unregister-requires-clause-live : goal.unregister-requires-clause-live
unregister-requires-clause-live g c =
    let e = c.enter_proc-held.ensures in
    live_here (start_of c.args.hall.now) (view c.enter_proc-held.new.caller.pass) c.args.caller.now.number c.enter_proc-held.new.caller.number c.enter_proc-held.new.caller.session c.args.caller.now.session.levels.registered.items c.args.name.now e.at e.same.1 (ap (λ z. z.levels.registered.items) e.same.0) ∙ c.requires.registered

pub unregister-requires-clause-table : goal.unregister-requires-clause-table
unregister-requires-clause-table g c =
    let by = by_at c.args.caller.now.number c.args.caller.now.session.levels.commands in
    proc_adds (start_of c.args.hall.now) c.deref_mut.result.now c.drop_snapshot.new.self (at (view c.enter_proc-held.new.caller.pass).seen proc_lock) by (events.SnapDrop c.args.name.now by) (subst (λ l. ProcStands (start_of c.args.hall.now) l (at (view c.enter_proc-held.new.caller.pass).seen proc_lock)) (sym c.deref_mut.ensures.value) c.enter_proc-held.ensures.stands) c.drop_snapshot.ensures

pub returns : goal.returns
returns g c =
    let e = c.enter_proc-held.ensures in
    let s = c.args.caller.now.session in
    let by = by_at c.args.caller.now.number s.levels.commands in
    let r = c.unregister.ensures in
    let wide = c.requires.may.ready.at.wide in record {
      own = r.own;
      may = proc_call (start_of c.args.hall.now) (view c.args.caller.now.pass) (view c.enter_proc-held.new.caller.pass) (view c.unregister.new.caller.pass) c.args.caller.now.number c.unregister.new.caller.number c.args.caller.now.session c.unregister.new.caller.session _
          c.requires.may e.entered r.left refl (ap (λ (z : Stance). innermost z.levels) r.stance ∙ ap (λ z. inner_id z) e.same.0) (r.opened ∙ ap (λ z. z.levels.open_ids.items) e.same.0) (r.stage ∙ ap (λ z. z.stage) e.same.0) (r.count.1 ∙ e.same.1) r.ready;
      acted = acted_dropped (start_of c.args.hall.now) (view c.args.caller.now.pass) (view c.enter_proc-held.new.caller.pass) (view c.unregister.new.caller.pass) c.args.caller.now.number s (stance_of c.unregister.new.caller.session) c.args.name.now (drop_entry by c.args.name.now)
          c.requires.may.ready.at e.entered refl c.unregister.ensures.left c.requires.registered
          (c.unregister.ensures.stance ∙ ap (λ z. record (stance_of z) { snaps = without_snap c.args.name.now (stance_of z).snaps }) e.same.0);
      stage = r.stage ∙ ap (λ z. z.stage) e.same.0;
      held = tt;
      still = λ q is. not_standing None q refl is;
      making = kept_making (commands.DropSnap c.args.name.now) replies.Done (has_more_multis c.args.caller.now.number (view c.args.caller.now.pass).seen (view c.unregister.new.caller.pass).seen) s.making c.unregister.new.caller.session.making refl (r.making ∙ ap (λ z. z.making) e.same.0);
      count = (r.count.0 ∙ ap (λ z. z.levels.commands) e.same.0, r.count.1 ∙ e.same.1);
    }
