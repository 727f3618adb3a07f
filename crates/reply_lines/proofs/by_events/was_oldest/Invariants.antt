use Rattle.std.proofs.Common.{◌≡◌, ◌<◌, ◌≤◌, ℕ, take}
use Rattle.history_places.specs.Told.{oldest_in}
use Rattle.reply_lines.proofs.by_events.was_oldest.Given as goal

abbrev pub invariant-loop-place : goal.invariant-loop-place
invariant-loop-place l = (p : ℕ) → l.from ≤ p → p < l.place → l.now ≡ oldest_in l.places.base (take p l.places.events) → ⊥
