use Rattle.std.proofs.Common.{drop}
use Rattle.std.specs.List.{AllByRecursion}
use Rattle.report_words.specs.Fits.{FitsPair}
use Rattle.report_words.proofs.fits.pairs_fit.Given as goal

abbrev pub invariant-loop-pair : goal.invariant-loop-pair
invariant-loop-pair l = AllByRecursion FitsPair (drop l.pair-index l.pairs) → AllByRecursion FitsPair l.pairs
