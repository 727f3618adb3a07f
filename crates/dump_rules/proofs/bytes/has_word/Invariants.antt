use Rattle.std.proofs.Common.{ℕ, ◌+◌, ◌<◌}
use Rattle.report_law.specs.Dumps.{HasByte, byte_of}
use Rattle.dump_rules.proofs.bytes.has_word.Given as goal

abbrev pub invariant-loop-k : goal.invariant-loop-k
invariant-loop-k l = record {
  same : (j : ℕ) → j < l.k → HasByte l.at l.bytes (l.place + j) (byte_of l.n j);
}
