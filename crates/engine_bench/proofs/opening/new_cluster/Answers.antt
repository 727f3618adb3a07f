use Rattle.std.proofs.Common.{subst, sym}
use Rattle.tx_events.specs.Base.{IsBase}
use Rattle.engine_bench.proofs.Beginning.{base_is}
use Rattle.engine_bench.proofs.opening.new_cluster.Goals as goal

pub returns-clause-cluster : goal.returns-clause-cluster
returns-clause-cluster c = record {
  base = subst IsBase (sym c.of_new_log.ensures) base_is;
  banks = c.requires.banks;
  sessions = c.requires.sessions;
}
