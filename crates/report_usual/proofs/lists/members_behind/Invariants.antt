use Rattle.std.proofs.Common.{length}
use Rattle.report_text.specs.MemberText.{member_word}
use Rattle.report_words.specs.Fits.{FitsMember}
use Rattle.report_usual.specs.Usual.{AreInFront}
use Rattle.report_usual.proofs.lists.members_behind.Given as goal

abbrev pub invariant-loop-number : goal.invariant-loop-number
invariant-loop-number l = AreInFront member_word FitsMember l.fn.bytes l.members l.rest

abbrev pub decreases-loop-number : goal.decreases-loop-number
decreases-loop-number l = length l.rest
