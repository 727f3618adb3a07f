use Rattle.std.proofs.Common.{drop}
use Rattle.std.specs.List.{AllByRecursion}
use Rattle.report_words.specs.Fits.{FitsVerdict}
use Rattle.report_words.proofs.fits.verdicts_fit.Given as goal

abbrev pub invariant-loop-verdict : goal.invariant-loop-verdict
invariant-loop-verdict l = AllByRecursion FitsVerdict (drop l.verdict-index l.verdicts) → AllByRecursion FitsVerdict l.verdicts
