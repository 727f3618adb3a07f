use Rattle.std.proofs.Common.{◌≡◌, sym, ◌∙◌, subst, ap, arith, false}
use Rattle.tx_events.specs.Horizon.{is_live}
use Rattle.tx_events.specs.Snapshots.{snapshot_xmin}
use Rattle.proc_table.specs.Table.{Table, InTurn}
use Rattle.proc_table.proofs.KeptContents.{of_now_quiet}
use Rattle.tx_events.specs.declared.event.Event.TheVariants as events
use Rattle.proc_table.proofs.QuietStates.{state_snapped}
use Rattle.proc_table.proofs.table.ProcTable.register.Goals as goal

pub invariant_of-self-2 : goal.invariant_of-self-2
invariant_of-self-2 c =
    let view : c.self.inside.events.items ≡ c.args.self.now.events = ap (λ t. t.events) c.self.view_is in
    let turn : InTurn c.args.by c.self.inside.events.items = subst (InTurn c.args.by) (sym view) c.requires.turn in
    let free : is_live c.self.inside.base.next c.args.by.session c.args.name.now c.self.inside.events.items ≡ false =
    ap (λ (t : Table). is_live t.base.next c.args.by.session c.args.name.now t.events) c.self.view_is ∙ c.requires.free in (
      rw (c.push_reserved.ensures.items, c.in_ok-make_room.ensures.items, c.same.ensures, c.of.ensures)
          (state_snapped _ _ _ _ _ _ _ _ _ c.args.by c.args.name.now _ c.self.invariant.0 turn free (c.requires.xmin ∙ sym (ap (λ (t : Table). snapshot_xmin t.base.next t.events) c.self.view_is)) c.in_ok-insert.ensures.ok),
      omega (arith, c.push_reserved.ensures.len, c.push_reserved.ensures.capacity, c.in_ok-make_room.ensures.room),
      c.in_ok-insert.ensures.sessions ∙ c.self.invariant.2,
      rw (c.push_reserved.ensures.items, c.in_ok-make_room.ensures.items, c.same.ensures, c.of.ensures)
          (of_now_quiet c.self.inside.base.next c.self.inside.events.items (events.Snap c.args.name.now c.args.by) c.self.inside.contents tt c.self.invariant.3),
    )
