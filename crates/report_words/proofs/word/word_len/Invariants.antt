use Rattle.std.proofs.Common.{◌≡◌, ℕ, ◌<◌, get_or, true, not}
use Rattle.report_words.specs.Words.{is_space}
use Rattle.report_words.proofs.word.word_len.Given as goal

abbrev pub invariant-loop-i : goal.invariant-loop-i
invariant-loop-i l = (k : ℕ) → k < l.i → not (is_space (get_or l.bytes k 0)) ≡ true
