use Rattle.std.proofs.Common.{List, ap, ◌∙◌, map}
use Rattle.place_columns.specs.declared.lines.Row.{Row}
use Rattle.place_columns.specs.Rows.{line_of}
use Rattle.place_columns.proofs.Rows.{map_push}
use Rattle.place_columns.proofs.lines.rows_of.Goals as goal

pub loop-line-preserved : goal.loop-line-preserved
loop-line-preserved c =
    ap (λ (t : List Row). map line_of t) c.in_ok-push.ensures.items
    ∙ map_push line_of c.loop-line.rows.items c.in_ok-row_of.field-0 c.args.lines.now c.loop-line.line-index (record { by = record { session = 0; command = 0 }; step = 0 }) c.loop-line.invariant c.loop-line-test.true c.in_ok-row_of.ensures
