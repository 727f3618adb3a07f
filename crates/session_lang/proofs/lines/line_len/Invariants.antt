use Rattle.std.proofs.Common.{◌≡◌, ℕ, ◌-◌, ◌<◌, ◌≤◌, get_or, length, take, true, not}
use Rattle.script_lines.specs.LineWords.{is_plain}
use Rattle.session_lang.specs.Lines.{is_line_end}
use Rattle.session_lang.proofs.lines.line_len.Given as goal

abbrev pub invariant-loop-end : goal.invariant-loop-end
invariant-loop-end l = record {
  within : l.end ≤ length l.bytes;
  before : (k : ℕ) → k < l.end → not (is_line_end (get_or l.bytes k 0)) ≡ true;
  plain : l.plain ≡ is_plain (take l.end l.bytes);
}

abbrev pub decreases-loop-end : goal.decreases-loop-end
decreases-loop-end l = length l.bytes - l.end
