use Rattle.std.proofs.Common.{length}
use Rattle.std.specs.Fmt.{decimal}
use Rattle.report_words.specs.Fits.{FitsId}
use Rattle.report_usual.specs.Usual.{AreInFront}
use Rattle.report_usual.proofs.lists.ids_behind.Given as goal

abbrev pub invariant-loop-number : goal.invariant-loop-number
invariant-loop-number l = AreInFront decimal FitsId l.fn.bytes l.ids l.rest

abbrev pub decreases-loop-number : goal.decreases-loop-number
decreases-loop-number l = length l.rest
