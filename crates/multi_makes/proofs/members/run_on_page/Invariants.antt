use Rattle.std.proofs.Common.{◌≡◌, ℕ, ◌+◌, ◌-◌, ◌<◌, ◌≤◌}
use Rattle.tx_core.specs.Locks.{member_page_in_full}
use Rattle.multi_makes.proofs.members.run_on_page.Given as goal

abbrev pub invariant-loop-run : goal.invariant-loop-run
invariant-loop-run l = (1 ≤ l.run) × (l.run ≤ l.count) × (l.page ≡ member_page_in_full l.offset)
    × ((k : ℕ) → k < l.run → member_page_in_full (l.offset + k) ≡ member_page_in_full l.offset)

abbrev pub decreases-loop-run : goal.decreases-loop-run
decreases-loop-run l = l.count - l.run
