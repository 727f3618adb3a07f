use Rattle.std.proofs.Common.{arith, sym, length}
use Rattle.std.proofs.lemmas.List.Sums.{prefix_len_is}
use Rattle.script_lines.specs.LineWords.{is_blank}
use Rattle.script_lines.proofs.word.blanks.Goals as goal

pub returns-clause-value : goal.returns-clause-value
returns-clause-value c =
    let b = c.args.bytes.now in
    sym (prefix_len_is is_blank b (length b) 0 (omega arith) (λ k h. c.loop-i.invariant k (omega arith)) (λ h. absurd (omega arith)))
