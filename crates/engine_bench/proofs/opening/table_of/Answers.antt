use Rattle.std.proofs.Common.{◌<◌, subst}
use Rattle.engine_host.specs.declared.cluster.Cluster.{Cluster}
use Rattle.engine_bench.proofs.opening.table_of.Goals as goal

pub returns-in-Ok-clause-parked : goal.returns-in-Ok-clause-parked
returns-in-Ok-clause-parked c n s low new =
    c.in-Ok.ensures.parked n s (subst (λ (d : Cluster). n < d.sessions) c.in-Ok.ensures.cluster low) new
