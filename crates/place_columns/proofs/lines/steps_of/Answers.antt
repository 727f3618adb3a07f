use Rattle.std.proofs.Common.{ℕ, List, [], ◌∷◌, ◌++◌, ap, ◌∙◌, get_or}
use Rattle.place_columns.specs.declared.lines.Row.{Row}
use Rattle.place_columns.proofs.Rows.{steps_more}
use Rattle.place_columns.proofs.lines.steps_of.Goals as goal

pub loop-row-preserved : goal.loop-row-preserved
loop-row-preserved c =
    let n = c.loop-row.row-index in
    let rows = c.args.rows.now in
    let d : Row = record { session = 0; command = 0; step = 0 } in
    c.in_ok-push.ensures.items
    ∙ ap (λ (t : List ℕ). t ++ (get_or rows n d).step ∷ []) c.loop-row.invariant
    ∙ steps_more rows n d c.loop-row-test.true
