use Rattle.std.proofs.Common.{◌≡◌, ap, ◌∙◌, subst, sym, refl, not, map}
use Rattle.std.specs.List.{filter}
use Rattle.hall.specs.Calls.{view, start_of}
use Rattle.notes.specs.Lists.{at}
use Rattle.tx_events.specs.declared.event.By.{By}
use Rattle.tx_events.specs.Events.{same_name}
use Rattle.tx_events.specs.Horizon.{is_live}
use Rattle.tx_core.specs.Entries.{history}
use Rattle.tx_core.specs.Locks.{proc_lock}
use Rattle.tx_core.specs.ProgramOrder.{IsInTurn}
use Rattle.session_levels.specs.Stands.{levels_of, told_of}
use Rattle.session_levels.proofs.ActsLemmas.{told_dropped}
use Rattle.engine_parts.specs.Sessions.{stance_of}
use Rattle.xact_engine.proofs.Snapping.{drop_entry, live_here, may_drop, ready_dropped}
use Rattle.xact_engine.proofs.snapshots.unregister.Goals as goal

pub leave_proc-requires-clause-may : goal.leave_proc-requires-clause-may
leave_proc-requires-clause-may g c =
    let seen = (view c.args.caller.now.pass).seen in
    may_drop (start_of c.args.hall.now) seen c.args.by c.args.name.now c.by-entry.result.value c.by-entry.ensures c.requires.shown c.requires.live (subst (λ (b : By). IsInTurn (start_of c.args.hall.now) (at seen proc_lock) b) (sym c.requires.by) (c.requires.at.turns proc_lock))

pub let_go-requires : goal.let_go-requires
let_go-requires g c =
    let start = start_of c.args.hall.now in
    let v = view c.args.caller.now.pass in
    sym (live_here start v c.args.caller.now.number c.args.caller.now.number c.args.caller.now.session c.leave_proc.new.caller.session.levels.registered.items c.args.name.now c.requires.at refl (sym (ap (λ z. z.levels.registered.items) c.leave_proc.ensures.same.0)))
    ∙ ap (λ (b : By). is_live start.base.next b.session c.args.name.now (history v.seen)) (sym c.requires.by) ∙ c.requires.live

pub returns-clause-ready : goal.returns-clause-ready
returns-clause-ready g c =
    let s = c.args.caller.now.session in
    let same = c.leave_proc.ensures.same in
    ready_dropped (start_of c.args.hall.now) (view c.args.caller.now.pass) (view c.leave_proc.new.caller.pass) c.args.caller.now.number c.leave_proc.new.caller.number s _ c.args.name.now c.by-entry.result.value c.requires.at
    (c.by-entry.ensures ∙ ap (λ (b : By). drop_entry b c.args.name.now) c.requires.by)
    (ap (λ z. z.levels.commands) same.0) (ap (λ z. z.levels.level_ids.items) same.0) (ap (λ z. z.levels.unnamed) same.0) (ap (λ z. z.levels.open_ids.items) same.0)
    (c.let_go.ensures ∙ ap (λ z. filter (λ k. not (same_name k.name c.args.name.now)) z.levels.registered.items) same.0) (ap (λ z. z.stage) same.0) (ap (λ z. z.unlinked) same.0) (ap (λ z. z.making) same.0) same.1 c.leave_proc.ensures.left

pub returns-clause-stance : goal.returns-clause-stance
returns-clause-stance g c =
    let s = c.args.caller.now.session in
    let same = c.leave_proc.ensures.same in
    let registered : c.let_go.new.registered.items ≡ filter (λ k. not (same_name k.name c.args.name.now)) s.levels.registered.items =
    c.let_go.ensures ∙ ap (λ z. filter (λ k. not (same_name k.name c.args.name.now)) z.levels.registered.items) same.0 in
    (λ j. record { levels = levels_of (same.0 j).levels.level_ids.items (same.0 j).levels.unnamed; snaps = map told_of (registered j) })
    ∙ ap (λ t. record (stance_of s) { snaps = t }) (sym (told_dropped c.args.name.now s.levels.registered.items))
