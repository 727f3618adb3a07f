use Rattle.std.proofs.Common.{arith, sym, length, not}
use Rattle.std.proofs.lemmas.List.Sums.{prefix_len_is}
use Rattle.report_words.specs.Members.{is_colon}
use Rattle.report_words.proofs.piece.piece_len.Goals as goal

pub returns-clause-value : goal.returns-clause-value
returns-clause-value c =
    let b = c.args.bytes.now in
    sym (prefix_len_is (λ x. not (is_colon x)) b (length b) 0 (omega arith) (λ k h. c.loop-i.invariant k (omega arith)) (λ h. absurd (omega arith)))
