use Rattle.std.proofs.Common.{◌++◌, ◌/◌, ◌%◌, ap, sym, take, ◌∙◌}
use Rattle.std.specs.Fmt.{decimal}
use Rattle.text_bytes.specs.Digits.{pair}
use Rattle.text_bytes.proofs.Laid.{of_more, then_three}
use Rattle.text_bytes.proofs.bytes.digits_over.Goals as goal

pub returns-clause-written : goal.returns-clause-written
returns-clause-written c =
    let n = c.args.n in
    let old = take c.args.at c.args.bytes.now in
    then_three old (decimal (n / 10000)) (pair (n % 10000 / 100)) (pair (n % 10000 % 100))
    (take c.pair_over.result c.pair_over.new.bytes) (take c.pair_over-next.result c.pair_over-next.new.bytes) (take c.few_over-next.result c.few_over-next.new.bytes)
    c.few_over-next.ensures.written c.pair_over-next.ensures.written c.pair_over.ensures.written
    ∙ ap (λ t. old ++ t) (sym (of_more n c.if-n-lt10000.false c.requires.small))
