use Rattle.std.proofs.Common.{ℕ, List, [], ◌∷◌, ◌++◌, ap, sym, ◌∙◌, map, take}
use Rattle.std.proofs.lemmas.List.{map_more}
use Rattle.place_columns.specs.Lined.{number_of}
use Rattle.place_columns.proofs.columns.numbers_of.Goals as goal

pub loop-by-preserved : goal.loop-by-preserved
loop-by-preserved c =
    let n = c.loop-by.by-index in
    let bys = c.args.bys.now in
    let f = number_of c.args.table.now in
    c.in_ok-push.ensures.items
    ∙ ap (λ (t : List ℕ). t ++ c.in_ok-small.field-0 ∷ []) c.loop-by.invariant
    ∙ ap (λ (k : ℕ). map f (take n bys) ++ k ∷ []) (c.in_ok-small.ensures ∙ c.number.ensures)
    ∙ sym (map_more f bys n (record { session = 0; command = 0 }) c.loop-by-test.true)
