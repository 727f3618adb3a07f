use Rattle.std.specs.Prelude.{◌≡◌, IfSome}
use Rattle.std.proofs.Common.{subst}
use Rattle.engine_host.specs.declared.cluster.Cluster.{Cluster}
use Rattle.engine_bench.proofs.opening.open_parts.Goals as goal

pub returns-in-Ok-clause-cluster : goal.returns-in-Ok-clause-cluster
returns-in-Ok-clause-cluster c =
    subst (λ (d : Cluster). IfSome c.table_of.result (λ r. r.1.cluster ≡ d)) c.in-Ok.ensures.cluster c.table_of.ensures.cluster
