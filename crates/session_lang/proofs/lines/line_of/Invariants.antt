use Rattle.std.proofs.Common.{◌≡◌, ℕ, ◌+◌, ◌≤◌, List, Bool, true, cond, get_or, length, []}
use Rattle.session_lang.specs.Lines.{lines_of}
use Rattle.session_lang.specs.Places.{item_lines}
use Rattle.session_lang.proofs.lines.line_of.Given as goal

pub record Looks (bytes rest : List ℕ) (place number left : ℕ) (more : Bool) : Type 0 where
  pub same : get_or (item_lines number (cond more (lines_of rest) [])) left 0 ≡ get_or (item_lines 1 (lines_of bytes)) place 0
  pub numbers : more ≡ true → number + length rest ≤ length bytes + 1

abbrev pub invariant-loop-more : goal.invariant-loop-more
invariant-loop-more l = Looks l.bytes l.rest l.place l.number l.left l.more

abbrev pub decreases-loop-more : goal.decreases-loop-more
decreases-loop-more l = length l.rest + cond l.more 1 0
