use Rattle.std.proofs.Common.{◌++◌, ◌/◌, ◌%◌, ap, sym, take, ◌∙◌}
use Rattle.std.specs.Fmt.{decimal}
use Rattle.text_bytes.specs.Digits.{pair}
use Rattle.text_bytes.proofs.Laid.{of_few, then_two}
use Rattle.text_bytes.proofs.bytes.few_over.Goals as goal

pub returns-clause-written : goal.returns-clause-written
returns-clause-written c =
    let n = c.args.n in
    let old = take c.args.at c.args.bytes.now in
    then_two old (decimal (n / 100)) (pair (n % 100)) (take c.pair_over.result c.pair_over.new.bytes) (take c.first_over-next.result c.first_over-next.new.bytes)
    c.first_over-next.ensures.written c.pair_over.ensures.written
    ∙ ap (λ t. old ++ t) (sym (of_few n c.if-n-lt100.false c.requires.small))
