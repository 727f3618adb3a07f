use Rattle.std.proofs.Common.{◌≡◌, ℕ, ◌<◌, get_or, true, not}
use Rattle.script_lines.specs.Members.{is_colon}
use Rattle.script_lines.proofs.member.colon_place.Given as goal

abbrev pub invariant-loop-i : goal.invariant-loop-i
invariant-loop-i l = (k : ℕ) → k < l.i → not (is_colon (get_or l.word k 0)) ≡ true
