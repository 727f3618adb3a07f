use Rattle.std.proofs.Common.{◌≡◌, ℕ, ◌<◌, get_or, true, not}
use Rattle.report_words.specs.Members.{is_colon}
use Rattle.report_words.proofs.piece.piece_len.Given as goal

abbrev pub invariant-loop-i : goal.invariant-loop-i
invariant-loop-i l = (k : ℕ) → k < l.i → not (is_colon (get_or l.bytes k 0)) ≡ true
