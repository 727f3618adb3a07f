use Rattle.std.proofs.Common.{◌≡◌, drop}
use Rattle.script_lines.specs.LineWords.{number_from}
use Rattle.script_lines.proofs.word.number_from.Given as goal

abbrev pub invariant-loop-b : goal.invariant-loop-b
invariant-loop-b l = number_from l.n (drop l.b-index l.word) ≡ number_from 0 l.word
