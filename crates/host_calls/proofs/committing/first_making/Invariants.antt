use Rattle.std.proofs.Common.{◌≡◌, ◌<◌, ℕ}
use Rattle.session_promise.specs.Checkpoints.{IsMakingMulti}
use Rattle.host_calls.proofs.committing.first_making.Given as goal

abbrev pub invariant-loop-session : goal.invariant-loop-session
invariant-loop-session l = record { counted : l.number ≡ l.session-index; none : (k : ℕ) → k < l.session-index → IsMakingMulti l.sessions k → ⊥ }
