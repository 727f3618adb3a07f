use Rattle.std.proofs.Common.{[], ◌∷◌, ◌++◌, ◌+◌, ◌/◌, ◌%◌, ap, take, ◌∙◌}
use Rattle.text_bytes.proofs.Laid.{pairs_at, then_two}
use Rattle.text_bytes.proofs.bytes.pair_over.Goals as goal

pub returns-clause-written : goal.returns-clause-written
returns-clause-written c =
    let p = pairs_at c.args.n c.requires.small in
    let old = take c.args.at c.args.bytes.now in
    let one = take c.byte_over-next.result c.byte_over-next.new.bytes in
    then_two old ((48 + c.args.n / 10) ∷ []) ((48 + c.args.n % 10) ∷ []) (take c.byte_over.result c.byte_over.new.bytes) one
    (c.byte_over-next.ensures.written ∙ ap (λ d. old ++ d ∷ []) p.0) (c.byte_over.ensures.written ∙ ap (λ d. one ++ d ∷ []) p.1)
