use Rattle.std.proofs.Common.{◌≤◌, vec_capacity}
use Rattle.engine_bench.proofs.Crewing.{AreIn}
use Rattle.engine_bench.proofs.crew.let_in.Given as goal

abbrev pub invariant-loop-number : goal.invariant-loop-number
invariant-loop-number g l = record {
  are_in : AreIn l.hall l.fn.host l.number l.host l.members.items;
  room : l.fn.host.cluster.sessions ≤ vec_capacity l.members;
}
