use Rattle.std.proofs.Common.{ℕ, List, ◌++◌, take, ◌∙◌, ap}
use Rattle.std.proofs.lemmas.List.{with_items_is}
use Rattle.text_bytes.proofs.bytes.lay_short.Goals as goal

pub returns-clause-written : goal.returns-clause-written
returns-clause-written c =
    ap (take c.short_over.result) (with_items_is c.args.bytes.now c.short_over.new.bytes (c.short_over.auto.bytes ∙ c.deref_mut.ensures.len)) ∙ c.short_over.ensures.written
    ∙ ap (λ (l : List ℕ). take c.args.at l ++ c.args.name.now) c.deref_mut.ensures.value
