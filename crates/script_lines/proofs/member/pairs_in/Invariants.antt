use Rattle.std.proofs.Common.{◌≡◌, length}
use Rattle.script_lines.specs.LineWords.{words_in}
use Rattle.script_lines.specs.Members.{pairs_in}
use Rattle.script_lines.proofs.MemberWords.{pairs_of}
use Rattle.script_lines.proofs.member.pairs_in.Given as goal

abbrev pub invariant-loop-word : goal.invariant-loop-word
invariant-loop-word l = pairs_of l.pairs (words_in l.rest) ≡ pairs_in (words_in l.words)

abbrev pub decreases-loop-word : goal.decreases-loop-word
decreases-loop-word l = length l.rest
