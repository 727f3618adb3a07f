use Rattle.std.proofs.Common.{◌≡◌, refl, sym, ◌∙◌, subst, ap, arith, [], ◌<◌}
use Rattle.tx_events.specs.Limits.{stop_limit}
use Rattle.tx_events.specs.Running.{open_ids}
use Rattle.proc_table.specs.Table.{InTurn}
use Rattle.proc_table.proofs.KeptContents.{of_now_id}
use Rattle.proc_table.proofs.States.{state_id}
use Rattle.proc_table.proofs.StateBounds.{next_from}
use Rattle.proc_table.proofs.table.ProcTable.assign.Goals as goal

pub advance-self-inside-requires-clause-from : goal.advance-self-inside-requires-clause-from
advance-self-inside-requires-clause-from c = let f = next_from _ _ _ _ _ _ _ _ c.self.invariant.0 in omega (arith, f)

pub invariant_of-self-2 : goal.invariant_of-self-2
invariant_of-self-2 c =
    let view : c.self.inside.events.items ≡ c.args.self.now.events = ap (λ t. t.events) c.self.view_is in
    let turn : InTurn c.args.by c.self.inside.events.items = subst (InTurn c.args.by) (sym view) c.requires.turn in
    let none : open_ids c.args.by.session c.self.inside.events.items ≡ [] = ap (open_ids c.args.by.session) view ∙ c.requires.none in
    let below : c.self.inside.next < stop_limit c.self.inside.oldest = c.in_ok-warn.ensures.0 in (
      rw (c.push_reserved-2.ensures.items, c.in_ok-make_room.ensures.items, c.push_reserved.ensures.items, c.in_ok-make_one_room.ensures.items, c.advance-self-inside.ensures.value, c.of.ensures)
          (state_id _ _ c.args.by c.self.inside.next _ _ _ _ _ _ c.self.invariant.0 below turn none c.of_top.ensures.session c.of_top.ensures.top c.of_top.ensures.last c.of_top.ensures.subs c.of_top.ensures.overflowed),
      omega (arith, c.push_reserved-2.ensures.len, c.push_reserved-2.ensures.capacity, c.in_ok-make_room.ensures.room),
      c.self.invariant.2,
      rw (c.push_reserved-2.ensures.items, c.in_ok-make_room.ensures.items, c.of.ensures) (of_now_id _ _ c.args.by _ _ _ _ _ _ c.self.inside.contents c.self.invariant.0 c.self.invariant.3),
    )
