use Rattle.std.proofs.Common.{◌≡◌, ℕ, take}
use Rattle.std.specs.BTreeSet.{contains}
use Rattle.std.specs.List.{list_any}
use Rattle.std.specs.Ordering.{nat_cmp}
use Rattle.report_law.specs.Records.{is_same_multi}
use Rattle.reply_rules.proofs.tops.recorded_multis.Given as goal

abbrev pub invariant-loop-rec : goal.invariant-loop-rec
invariant-loop-rec l = (x : ℕ) → contains nat_cmp l.multis x ≡ list_any (is_same_multi x) (take l.rec-index l.recs)
