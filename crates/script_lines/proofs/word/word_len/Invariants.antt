use Rattle.std.proofs.Common.{◌≡◌, ℕ, ◌<◌, get_or, true, not}
use Rattle.script_lines.specs.LineWords.{is_blank}
use Rattle.script_lines.proofs.word.word_len.Given as goal

abbrev pub invariant-loop-i : goal.invariant-loop-i
invariant-loop-i l = (k : ℕ) → k < l.i → not (is_blank (get_or l.bytes k 0)) ≡ true
