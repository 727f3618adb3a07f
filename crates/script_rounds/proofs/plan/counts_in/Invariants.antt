use Rattle.std.proofs.Common.{◌≡◌, length}
use Rattle.script_rounds.proofs.plan.counts_in.Given as goal

abbrev pub invariant-loop : goal.invariant-loop
invariant-loop l = length l.counts.items ≡ l.counter

abbrev pub invariant-loop-place : goal.invariant-loop-place
invariant-loop-place l = length l.counts.items ≡ l.sessions
