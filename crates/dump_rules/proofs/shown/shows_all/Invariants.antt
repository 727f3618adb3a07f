use Rattle.std.proofs.Common.{ℕ, ◌<◌, ◌≤◌}
use Rattle.dump_rules.specs.Shown.{ShowsLow, numbers_in}
use Rattle.dump_rules.proofs.shown.shows_all.Given as goal

abbrev pub ghost-epochs_of : goal.ghost-epochs_of
ghost-epochs_of g a = g.b

abbrev pub ghost-shows_low : goal.ghost-shows_low
ghost-shows_low g a = g.b

abbrev pub invariant-loop-low : goal.invariant-loop-low
invariant-loop-low g l = record {
  shown : (low : ℕ) → (numbers_in l.what l.at l.end).from ≤ low → low < l.low → ShowsLow g.b l.what l.at l.bytes l.epochs low;
}
