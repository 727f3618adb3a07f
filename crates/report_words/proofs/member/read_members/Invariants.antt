use Rattle.std.proofs.Common.{◌≡◌, length}
use Rattle.report_words.specs.Words.{behind}
use Rattle.report_words.specs.Members.{until_arrow, member_of}
use Rattle.report_words.proofs.member.read_members.Given as goal

abbrev pub invariant-loop-word : goal.invariant-loop-word
invariant-loop-word l = until_arrow member_of l.members (behind l.rest) ≡ until_arrow member_of l.fn.members (behind l.fn.rest)

abbrev pub decreases-loop-word : goal.decreases-loop-word
decreases-loop-word l = length (behind l.rest)
