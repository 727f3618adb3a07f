use Rattle.std.proofs.Common.{◌≡◌, ℕ, ◌<◌, length, get_or}
use Rattle.place_columns.specs.Tables.{slot_of}
use Rattle.place_columns.proofs.columns.placed.Given as goal

abbrev pub invariant-loop-place : goal.invariant-loop-place
invariant-loop-place l = record {
  size : length l.places.items ≡ length l.numbers;
  slotted : (q : ℕ) → q < l.place → get_or l.places.items (slot_of l.numbers l.counts l.ranks q) 0 ≡ q;
}
