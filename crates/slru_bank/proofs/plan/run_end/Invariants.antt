use Rattle.std.proofs.Common.{◌≡◌, ◌≤◌, ◌<◌, ◌-◌, ℕ, length, slice_index}
use Rattle.tx_events.specs.Pages.{xact_page}
use Rattle.slru_bank.proofs.plan.run_end.Given as goal

abbrev pub invariant-loop-past : goal.invariant-loop-past
invariant-loop-past l = record {
  from : l.first < l.past;
  within : l.past ≤ length l.subs;
  same : (j : ℕ) → l.first ≤ j → j < l.past → xact_page (slice_index l.subs j) ≡ l.page;
}

abbrev pub decreases-loop-past : goal.decreases-loop-past
decreases-loop-past l = length l.subs - l.past
