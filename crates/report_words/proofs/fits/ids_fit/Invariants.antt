use Rattle.std.proofs.Common.{drop}
use Rattle.std.specs.List.{AllByRecursion}
use Rattle.report_words.specs.Fits.{FitsId}
use Rattle.report_words.proofs.fits.ids_fit.Given as goal

abbrev pub invariant-loop-id : goal.invariant-loop-id
invariant-loop-id l = AllByRecursion FitsId (drop l.id-index l.ids) → AllByRecursion FitsId l.ids
