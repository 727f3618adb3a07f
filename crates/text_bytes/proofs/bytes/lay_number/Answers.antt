use Rattle.std.proofs.Common.{ℕ, List, ◌∷◌, ◌++◌, take, ◌∙◌, ap}
use Rattle.std.proofs.lemmas.List.{with_items_is}
use Rattle.std.specs.Fmt.{decimal}
use Rattle.text_bytes.proofs.bytes.lay_number.Goals as goal

pub returns-clause-written : goal.returns-clause-written
returns-clause-written c =
    ap (take c.number_over.result) (with_items_is c.args.bytes.now c.number_over.new.bytes (c.number_over.auto.bytes ∙ c.deref_mut.ensures.len)) ∙ c.number_over.ensures.written
    ∙ ap (λ (l : List ℕ). take c.args.at l ++ 32 ∷ decimal c.args.n) c.deref_mut.ensures.value
