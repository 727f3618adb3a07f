use Rattle.std.proofs.Common.{◌≡◌, ◌+◌, drop, arith, refl, ◌∙◌, ap}
use Rattle.std.specs.List.{prefix_len}
use Rattle.std.proofs.lemmas.List.{take_rest}
use Rattle.report_lines.proofs.Cuts.{cut, no_cut, inside}
use Rattle.report_lines.proofs.cut.next_line.Goals as goal

pub returns-then-len-rest-clause-none : goal.returns-then-len-rest-clause-none
returns-then-len-rest-clause-none c =
    let e : c.line_len-len.result ≡ prefix_len inside (drop 1 c.args.rest.now) = c.line_len-len.ensures.value ∙ ap (prefix_len inside) (take_rest c.args.rest.now 1) in
    no_cut c.args.rest.now c.line_len-len.result c.requires e (omega arith)

pub returns-clause-some : goal.returns-clause-some
returns-clause-some c =
    let e : c.line_len-len.result ≡ prefix_len inside (drop 1 c.args.rest.now) = c.line_len-len.ensures.value ∙ ap (prefix_len inside) (take_rest c.args.rest.now 1) in
    cut c.args.rest.now _ _ c.line_len-len.result c.requires e (omega arith) refl (take_rest c.args.rest.now (c.line_len-len.result + 1))
