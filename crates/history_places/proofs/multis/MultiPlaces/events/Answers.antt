use Rattle.std.proofs.Common.{subst}
use Rattle.tx_events.specs.Multis.{AreLegalMultis}
use Rattle.history_places.specs.MultiTold.{MultiReplayed}
use Rattle.history_places.specs.Starts.{BeginsAs}
use Rattle.history_places.proofs.multis.MultiPlaces.events.Goals as goal

pub returns-clause-legal : goal.returns-clause-legal
returns-clause-legal c = subst (λ (s : MultiReplayed). AreLegalMultis s.base (BeginsAs s.starts) s.events) c.self.view_is c.self.invariant.1.legal
