use Rattle.std.proofs.Common.{ℕ, ◌<◌}
use Rattle.std.specs.List.{HoldsAt}
use Rattle.standing_rules.specs.declared.sessions.Session.{Session}
use Rattle.checkpoint_rules.specs.Midst.{IsInCommit}
use Rattle.checkpoint_rules.proofs.asked.least_in_commit.Given as goal

abbrev pub invariant-loop-place : goal.invariant-loop-place
invariant-loop-place l = (s : ℕ) → s < l.place → HoldsAt (λ (x : Session). IsInCommit x → ⊥) l.sessions s
