use Rattle.std.proofs.Common.{◌≡◌, ◌<◌, ℕ}
use Rattle.session_promise.specs.Checkpoints.{IsCommitting}
use Rattle.host_calls.proofs.committing.first_committing.Given as goal

abbrev pub invariant-loop-session : goal.invariant-loop-session
invariant-loop-session l = record { counted : l.number ≡ l.session-index; none : (k : ℕ) → k < l.session-index → IsCommitting l.sessions k → ⊥ }
