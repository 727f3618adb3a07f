use Rattle.std.proofs.Common.{◌≡◌, ◌≤◌, ◌<◌, ◌-◌, ℕ, slice_index}
use Rattle.std.specs.Prelude.{IsTrue}
use Rattle.slru_bank.proofs.buffer.are_zeros.Given as goal

abbrev pub invariant-loop-i : goal.invariant-loop-i
invariant-loop-i l = record {
  from : l.at ≤ l.i;
  to : l.i ≤ 8192;
  zeros : IsTrue l.zeros → (k : ℕ) → l.at ≤ k → k < l.i → slice_index l.bytes k ≡ 0;
}

abbrev pub decreases-loop-i : goal.decreases-loop-i
decreases-loop-i l = 8192 - l.i
