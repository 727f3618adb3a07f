use Rattle.std.proofs.Common.{subst, sym}
use Rattle.engine_host.specs.Hosts.{HoldsAllBut}
use Rattle.engine_bench.proofs.runs.run_opened.Goals as goal

pub take_back-done-requires-clause-names : goal.take_back-done-requires-clause-names
take_back-done-requires-clause-names g c = subst (HoldsAllBut c.let_in.new.host) (sym c.work_timed-time.ensures.numbers) c.let_in.ensures.names
