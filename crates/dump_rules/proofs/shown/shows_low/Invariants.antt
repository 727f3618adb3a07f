use Rattle.std.proofs.Common.{ℕ, ◌+◌, ◌*◌, ◌<◌, ◌≤◌}
use Rattle.dump_rules.specs.Shown.{ShowsNumber}
use Rattle.dump_rules.proofs.shown.shows_low.Given as goal

abbrev pub ghost-shows_number : goal.ghost-shows_number
ghost-shows_number g a = g.b

abbrev pub invariant-loop-epoch : goal.invariant-loop-epoch
invariant-loop-epoch g l = record {
  shown : (e : ℕ) → l.fn.epochs.from ≤ e → e < l.epoch → ShowsNumber g.b l.what l.at l.bytes (e * 4294967296 + l.low);
}
