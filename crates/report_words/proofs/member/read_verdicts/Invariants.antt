use Rattle.std.proofs.Common.{◌≡◌, length}
use Rattle.report_words.specs.Words.{behind}
use Rattle.report_words.specs.Members.{until_arrow, verdict_of}
use Rattle.report_words.proofs.member.read_verdicts.Given as goal

abbrev pub invariant-loop-word : goal.invariant-loop-word
invariant-loop-word l = until_arrow verdict_of l.verdicts (behind l.rest) ≡ until_arrow verdict_of l.fn.verdicts (behind l.fn.rest)

abbrev pub decreases-loop-word : goal.decreases-loop-word
decreases-loop-word l = length (behind l.rest)
