use Rattle.std.proofs.Common.{subst}
use Rattle.tx_events.specs.Multis.{AreLegalMultis, InBase}
use Rattle.multi_store.specs.Generator.{Generator}
use Rattle.multi_store.proofs.generator.MultiGen.events.Goals as goal

pub returns-clause-legal : goal.returns-clause-legal
returns-clause-legal c = subst (λ (g : Generator). AreLegalMultis g.base (InBase g.base) g.events) c.self.view_is c.self.invariant.0.legal
