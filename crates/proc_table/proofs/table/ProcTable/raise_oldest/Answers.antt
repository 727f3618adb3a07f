use Rattle.std.proofs.Common.{◌≡◌, refl, sym, ◌∙◌, subst, ap, arith, ◌≤◌}
use Rattle.std.proofs.lemmas.Map.Keys.{ge_from_not_lt}
use Rattle.tx_events.specs.Horizon.{oldest_id, oldest_xmin}
use Rattle.proc_table.specs.Table.{InTurn, xmin_of}
use Rattle.proc_table.proofs.KeptContents.{of_now_quiet}
use Rattle.tx_events.specs.declared.event.Event.TheVariants as events
use Rattle.proc_table.proofs.QuietStates.{state_raised}
use Rattle.proc_table.proofs.table.ProcTable.raise_oldest.Goals as goal

pub invariant_of-self-2 : goal.invariant_of-self-2
invariant_of-self-2 c =
    let view : c.self.inside.events.items ≡ c.args.self.now.events = ap (λ t. t.events) c.self.view_is in
    let turn : InTurn c.args.by c.self.inside.events.items = subst (InTurn c.args.by) (sym view) c.requires.turn in
    let from : oldest_id c.self.inside.base.oldest c.self.inside.events.items ≤ c.args.oldest =
    subst (λ o. o ≤ c.args.oldest) c.self.invariant.0.oldest_is (ge_from_not_lt c.args.oldest c.self.inside.oldest (sym c.lt.ensures ∙ c.if-lt.false)) in
    let to : c.args.oldest ≤ oldest_xmin c.self.inside.base.next c.self.inside.events.items =
    subst (λ m. c.args.oldest ≤ m) (c.oldest_xmin-limit.ensures ∙ sym (ap xmin_of c.self.view_is)) (ge_from_not_lt c.oldest_xmin-limit.result c.args.oldest (sym c.lt-2.ensures ∙ c.if-lt-2.false)) in (
      rw (c.push_reserved.ensures.items, c.in_ok-make_room.ensures.items, c.of.ensures) (state_raised _ _ _ _ _ _ _ _ c.args.by c.args.oldest c.self.invariant.0 turn from to),
      omega (arith, c.push_reserved.ensures.len, c.push_reserved.ensures.capacity, c.in_ok-make_room.ensures.room),
      c.self.invariant.2,
      rw (c.push_reserved.ensures.items, c.in_ok-make_room.ensures.items, c.of.ensures) (of_now_quiet c.self.inside.base.next c.self.inside.events.items (events.Oldest c.args.by c.args.oldest) c.self.inside.contents tt c.self.invariant.3),
    )
