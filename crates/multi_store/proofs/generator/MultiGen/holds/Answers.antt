use Rattle.std.proofs.Common.{◌↔◌, IsTrue, Contains, subst}
use Rattle.tx_events.specs.Multis.{pins}
use Rattle.multi_store.specs.Generator.{Generator}
use Rattle.multi_store.proofs.generator.MultiGen.holds.Goals as goal

pub returns : goal.returns
returns c =
    subst (λ (g : Generator). IsTrue c.has_pin.result ↔ Contains (pins g.events) (c.args.session, c.args.multi)) c.self.view_is (c.has_pin.ensures (pins c.self.inside.events.items) c.self.invariant.0.tally)
