use Rattle.std.proofs.Common.{◌≡◌, drop}
use Rattle.report_words.specs.Reading.{number_from, number_of}
use Rattle.report_words.proofs.word.number_of.Given as goal

abbrev pub invariant-loop-b : goal.invariant-loop-b
invariant-loop-b l = number_from l.n (drop l.b-index l.word) ≡ number_of l.word
