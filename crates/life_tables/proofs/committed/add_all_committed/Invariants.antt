use Rattle.std.proofs.Common.{◌≡◌, ◌==◌, ◌||◌, ℕ, take}
use Rattle.std.specs.BTreeSet.{contains}
use Rattle.std.specs.List.{flat_map, list_any}
use Rattle.std.specs.Ordering.{nat_cmp}
use Rattle.report_law.specs.Begun.{committed_by}
use Rattle.life_tables.proofs.committed.add_all_committed.Given as goal

abbrev pub invariant-loop-rec : goal.invariant-loop-rec
invariant-loop-rec l = (x : ℕ) → contains nat_cmp l.committed x ≡ (contains nat_cmp l.fn.committed x || list_any (λ z. z == x) (flat_map committed_by (take l.rec-index l.recs)))
