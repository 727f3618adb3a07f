use Rattle.std.proofs.Common.{arith, sym, get_or, length, not}
use Rattle.std.proofs.lemmas.List.Sums.{prefix_len_is}
use Rattle.session_lang.specs.Lines.{is_line_end}
use Rattle.session_lang.proofs.FrontLemmas.{ends_no_line, printable_plain}
use Rattle.session_lang.proofs.lines.line_len.Goals as goal

pub loop-end-init : goal.loop-end-init
loop-end-init c =
    let b = c.args.bytes.now in let front = c.printable_front-end.ensures in
    record {
      within = front.within;
      before = λ k i. ends_no_line (get_or b k 0) (front.printable k (omega arith) i);
      plain = sym (printable_plain b c.printable_front-end.result front.within front.printable);
    }

pub returns-clause-value : goal.returns-clause-value
returns-clause-value c =
    let b = c.args.bytes.now in
    sym (prefix_len_is (λ x. not (is_line_end x)) b c.loop-end.end 0 c.loop-end.invariant.within c.loop-end.invariant.before (λ h. absurd (omega arith)))
