use Rattle.std.proofs.Common.{◌≡◌, ◌==◌, ℕ, take}
use Rattle.std.specs.List.{list_any}
use Rattle.life_law.specs.Pending.{is_commit_of}
use Rattle.reply_rules.proofs.tops.commit_tops.Given as goal

abbrev pub invariant-loop-rec : goal.invariant-loop-rec
invariant-loop-rec l = (x : ℕ) → list_any (λ y. y == x) l.tops.items ≡ list_any (is_commit_of x) (take l.rec-index l.recs)
