use Rattle.std.proofs.Common.{◌≡◌, sym, ◌∙◌, subst, ap, arith, true}
use Rattle.std.proofs.lemmas.Bool.{false≢true}
use Rattle.std.specs.Prelude.{is_some}
use Rattle.tx_events.specs.Horizon.{is_live, live_snaps}
use Rattle.proc_table.specs.Table.{Table, InTurn}
use Rattle.proc_table.proofs.LiveLemmas.{live_is_some}
use Rattle.proc_table.proofs.KeptContents.{of_now_quiet}
use Rattle.tx_events.specs.declared.event.Event.TheVariants as events
use Rattle.proc_table.proofs.QuietStates.{state_dropped}
use Rattle.proc_table.proofs.table.ProcTable.drop_snapshot.Goals as goal

pub unreachable-requires : goal.unreachable-requires
unreachable-requires c =
    let live : is_live c.self.inside.base.next c.args.by.session c.args.name.now c.self.inside.events.items ≡ true =
    ap (λ (t : Table). is_live t.base.next c.args.by.session c.args.name.now t.events) c.self.view_is ∙ c.requires.registered in
    false≢true
    (sym (ap is_some (c.take_out.ensures.none c.if-not-take_out.true (live_snaps c.self.inside.base.next c.self.inside.events.items) c.self.invariant.0.live))
    ∙ live_is_some (live_snaps c.self.inside.base.next c.self.inside.events.items) c.args.by.session c.args.name.now ∙ live)

pub invariant_of-self : goal.invariant_of-self
invariant_of-self c =
    let view : c.self.inside.events.items ≡ c.args.self.now.events = ap (λ t. t.events) c.self.view_is in
    let turn : InTurn c.args.by c.self.inside.events.items = subst (InTurn c.args.by) (sym view) c.requires.turn in
    let live : is_live c.self.inside.base.next c.args.by.session c.args.name.now c.self.inside.events.items ≡ true =
    ap (λ (t : Table). is_live t.base.next c.args.by.session c.args.name.now t.events) c.self.view_is ∙ c.requires.registered in
    let dropped = state_dropped _ _ _ _ _ _ _ _ _ c.args.by c.args.name.now c.self.invariant.0 turn live (c.take_out.ensures.left c.if-not-take_out.false) in (
      rw (c.push_reserved.ensures.items, c.same.ensures, c.of.ensures) dropped.1,
      omega (arith, c.push_reserved.ensures.len, c.push_reserved.ensures.capacity, dropped.0),
      c.take_out.ensures.sessions ∙ c.self.invariant.2,
      rw (c.push_reserved.ensures.items, c.same.ensures, c.of.ensures) (of_now_quiet c.self.inside.base.next c.self.inside.events.items (events.SnapDrop c.args.name.now c.args.by) c.self.inside.contents tt c.self.invariant.3),
    )
