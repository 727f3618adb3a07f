use Rattle.std.proofs.Common.{◌≡◌, refl, sym, subst, ap, arith, ◌<◌, Contains}
use Rattle.tx_events.specs.Limits.{stop_limit}
use Rattle.tx_events.specs.Running.{open_ids}
use Rattle.proc_table.specs.Table.{InTurn}
use Rattle.proc_table.proofs.SubStates.{state_sub, state_same}
use Rattle.proc_table.proofs.StateBounds.{next_from}
use Rattle.proc_table.proofs.EntryLists.{zip_from_each}
use Rattle.proc_table.proofs.table.ProcTable.add_sub.Goals as goal

pub invariant_of-self-in_err-make_sub_room : goal.invariant_of-self-in_err-make_sub_room
invariant_of-self-in_err-make_sub_room c = (
  rw c.in_ok-make_room.ensures.items (state_same _ _ _ _ _ _ _ _ _ c.self.invariant.0 (zip_from_each _ _ _ c.in_err-make_sub_room.ensures.same)),
  omega (arith, c.in_ok-make_room.ensures.len, c.in_ok-make_room.ensures.capacity, c.self.invariant.1),
  c.self.invariant.2,
  rw c.in_ok-make_room.ensures.items c.self.invariant.3,
)

pub advance-self-inside-requires-clause-from : goal.advance-self-inside-requires-clause-from
advance-self-inside-requires-clause-from c = let f = next_from _ _ _ _ _ _ _ _ c.self.invariant.0 in omega (arith, f)

pub invariant_of-self-2 : goal.invariant_of-self-2
invariant_of-self-2 c =
    let view : c.self.inside.events.items ≡ c.args.self.now.events = ap (λ t. t.events) c.self.view_is in
    let turn : InTurn c.args.by c.self.inside.events.items = subst (InTurn c.args.by) (sym view) c.requires.turn in
    let parent : Contains (open_ids c.args.by.session c.self.inside.events.items) c.args.parent = subst (λ h. Contains (open_ids c.args.by.session h) c.args.parent) (sym view) c.requires.parent in
    let below : c.self.inside.next < stop_limit c.self.inside.oldest = c.in_ok-warn.ensures.0 in (
      rw (c.push_reserved.ensures.items, c.in_ok-make_room.ensures.items, c.advance-self-inside.ensures.value, c.of.ensures)
          (state_sub _ _ c.args.by c.args.parent c.self.inside.next _ _ _ _ _ _
          (state_same _ _ _ _ _ _ _ _ _ c.self.invariant.0 (zip_from_each _ _ _ c.in_ok-make_sub_room.ensures.same)) below turn parent (zip_from_each _ _ _ c.add_id.ensures)),
      omega (arith, c.push_reserved.ensures.len, c.push_reserved.ensures.capacity, c.in_ok-make_room.ensures.room),
      c.self.invariant.2,
      tt,
    )
