use Rattle.std.proofs.Common.{rules, of_calls, ◌≡◌, List, map, nat_lt, ap, ◌∙◌}
use Rattle.std.proofs.lemmas.Fn.{always_returns_same}
use Rattle.place_columns.specs.declared.lines.Row.{Row}
use Rattle.place_columns.specs.Lined.{lines_from}
use Rattle.place_columns.specs.Rows.{line_of}
use Rattle.place_columns.proofs.Parts.{rows_before, rows_parted}
use Rattle.place_columns.proofs.lines.LineTable.lines_before.Goals as goal

pub returns : goal.returns
returns c = λ steps table_is.
    let rows = c.deref.result.now in
    let k = c.args.step in
    let is : map line_of rows ≡ lines_from 0 steps = ap (λ (t : List Row). map line_of t) c.deref.ensures.value ∙ c.self.view_is ∙ table_is in
    let point = c.partition_point.ensures.partitioned (λ (r : Row). nat_lt r.step k) (always_returns_same _ _ _ (λ a r f e. search (rules, of_calls))) (λ i j d l m e. rows_parted steps k rows is i j d l m e) in
    rows_before steps k rows is c.partition_point.result c.partition_point.ensures.bound (λ i d l m. point.0 i d l m) (λ i d l m. point.1 i d l m)
