use Rattle.std.proofs.Common.{◌≡◌, ◌++◌, take}
use Rattle.report_text.specs.Words.{more}
use Rattle.report_text.specs.MemberText.{pair_words}
use Rattle.report_text.proofs.member.put_pairs.Given as goal

abbrev pub invariant-loop-pair : goal.invariant-loop-pair
invariant-loop-pair l = l.out ≡ l.fn.out ++ more (pair_words (take l.pair-index l.pair-items))
