use Rattle.std.proofs.Common.{◌≡◌, ◌+◌}
use Rattle.wal_core.specs.LogViews.{log_next}
use Rattle.parts_bench.proofs.commits.write_commits.Given as goal

abbrev pub invariant-loop-i : goal.invariant-loop-i
invariant-loop-i g l = log_next l.log ≡ log_next l.fn.log + l.i
