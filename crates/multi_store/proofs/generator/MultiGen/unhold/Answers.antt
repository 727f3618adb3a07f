use Rattle.std.proofs.Common.{◌≡◌, sym, subst, ap, arith, ◌≤◌, Contains}
use Rattle.tx_events.specs.Multis.{pins}
use Rattle.multi_store.proofs.States.{state_let_go, some_promised}
use Rattle.multi_store.proofs.generator.MultiGen.unhold.Goals as goal

pub invariant_of-self : goal.invariant_of-self
invariant_of-self c =
    let view : c.self.inside.events.items ≡ c.args.self.now.events = ap (λ g. g.events) c.self.view_is in
    let has : Contains (pins c.self.inside.events.items) (c.args.by.session, c.args.multi) = subst (λ h. Contains (pins h) (c.args.by.session, c.args.multi)) (sym view) c.requires in
    let some : 1 ≤ c.self.inside.promised = some_promised _ _ _ _ _ _ _ c.self.invariant.0 has in (
      rw (c.push_reserved.ensures.items, c.of.ensures)
          (state_let_go _ _ c.args.by c.args.multi _ _ _ _ _ c.self.invariant.0 has (c.drop_pin.ensures (pins c.self.inside.events.items) c.self.invariant.0.tally has)),
      omega (arith, c.push_reserved.ensures.len, c.push_reserved.ensures.capacity),
    )
