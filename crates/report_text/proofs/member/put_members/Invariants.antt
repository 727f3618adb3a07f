use Rattle.std.proofs.Common.{◌≡◌, ◌++◌, take}
use Rattle.report_text.specs.Words.{more}
use Rattle.report_text.specs.MemberText.{member_words}
use Rattle.report_text.proofs.member.put_members.Given as goal

abbrev pub invariant-loop-member : goal.invariant-loop-member
invariant-loop-member l = l.out ≡ l.fn.out ++ more (member_words (take l.member-index l.member-items))
