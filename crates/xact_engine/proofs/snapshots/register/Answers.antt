use Rattle.std.proofs.Common.{◌++◌, ◌∷◌, [], ap, ◌∙◌, subst, sym}
use Rattle.hall.specs.Calls.{view, start_of}
use Rattle.notes.specs.Lists.{at}
use Rattle.tx_events.specs.declared.event.By.{By}
use Rattle.tx_core.specs.Locks.{proc_lock}
use Rattle.tx_core.specs.ProgramOrder.{IsInTurn}
use Rattle.session_levels.specs.declared.session.RegisteredSnapshot.{RegisteredSnapshot}
use Rattle.engine_parts.specs.Sessions.{by_at}
use Rattle.xact_engine.proofs.Snapping.{may_snap, ready_snapped, snap_entry}
use Rattle.xact_engine.proofs.snapshots.register.Goals as goal

pub leave_proc-requires-clause-may : goal.leave_proc-requires-clause-may
leave_proc-requires-clause-may g c =
    let seen = (view c.args.caller.now.pass).seen in
    may_snap (start_of c.args.hall.now) seen c.args.by c.args.name.now c.by-entry.result.value c.by-entry.ensures c.requires.shown c.requires.free (subst (λ (b : By). IsInTurn (start_of c.args.hall.now) (at seen proc_lock) b) (sym c.requires.by) (c.requires.at.turns proc_lock))

pub returns-clause-ready : goal.returns-clause-ready
returns-clause-ready g c =
    let s = c.args.caller.now.session in
    let same = c.leave_proc.ensures.same in
    let k : RegisteredSnapshot = record { name = c.same.result; command = c.args.by.command; place = c.args.place; snapshot = c.args.snapshot } in
    ready_snapped (start_of c.args.hall.now) (view c.args.caller.now.pass) (view c.leave_proc.new.caller.pass) c.args.caller.now.number c.leave_proc.new.caller.number s _ k c.by-entry.result.value c.requires.at
    (c.by-entry.ensures ∙ ap (λ (b : By). snap_entry b c.args.name.now) c.requires.by ∙ ap (snap_entry (by_at c.args.caller.now.number s.levels.commands)) (sym c.same.ensures)) (ap (λ (b : By). b.command) c.requires.by) c.requires.place c.requires.holds
    (ap (λ z. z.levels.commands) same.0) (ap (λ z. z.levels.level_ids.items) same.0) (ap (λ z. z.levels.unnamed) same.0) (ap (λ z. z.levels.open_ids.items) same.0)
    (c.push_reserved.ensures.items ∙ ap (λ z. z.levels.registered.items ++ k ∷ []) same.0) (ap (λ z. z.stage) same.0) (ap (λ z. z.unlinked) same.0) (ap (λ z. z.making) same.0) same.1 c.leave_proc.ensures.left
