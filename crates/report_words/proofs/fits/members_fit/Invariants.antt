use Rattle.std.proofs.Common.{drop}
use Rattle.std.specs.List.{AllByRecursion}
use Rattle.report_words.specs.Fits.{FitsMember}
use Rattle.report_words.proofs.fits.members_fit.Given as goal

abbrev pub invariant-loop-member : goal.invariant-loop-member
invariant-loop-member l = AllByRecursion FitsMember (drop l.member-index l.members) → AllByRecursion FitsMember l.members
