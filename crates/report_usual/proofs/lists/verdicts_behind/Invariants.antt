use Rattle.std.proofs.Common.{length}
use Rattle.report_text.specs.MemberText.{member_verdict_word}
use Rattle.report_words.specs.Fits.{FitsVerdict}
use Rattle.report_usual.specs.Usual.{AreInFront}
use Rattle.report_usual.proofs.lists.verdicts_behind.Given as goal

abbrev pub invariant-loop-number : goal.invariant-loop-number
invariant-loop-number l = AreInFront member_verdict_word FitsVerdict l.fn.bytes l.verdicts l.rest

abbrev pub decreases-loop-number : goal.decreases-loop-number
decreases-loop-number l = length l.rest
