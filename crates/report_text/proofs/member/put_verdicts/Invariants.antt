use Rattle.std.proofs.Common.{◌≡◌, ◌++◌, take}
use Rattle.report_text.specs.Words.{more}
use Rattle.report_text.specs.MemberText.{member_verdict_words}
use Rattle.report_text.proofs.member.put_verdicts.Given as goal

abbrev pub invariant-loop-verdict : goal.invariant-loop-verdict
invariant-loop-verdict l = l.out ≡ l.fn.out ++ more (member_verdict_words (take l.verdict-index l.verdict-items))
