use Rattle.std.proofs.Common.{◌≡◌, take}
use Rattle.report_text.proofs.printed.are_same.Given as goal

abbrev pub invariant-loop-i : goal.invariant-loop-i
invariant-loop-i l = l.differing ≡ 0 → take l.i l.a ≡ take l.i l.b
