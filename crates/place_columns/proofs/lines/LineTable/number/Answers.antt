use Rattle.std.proofs.Common.{◌≡◌, ◌≤◌, ◌∙◌, List, ap, arith, false, map, nat_lt, length, vec_len}
use Rattle.std.proofs.lemmas.Bool.Decides.{nat_tests}
use Rattle.std.proofs.lemmas.List.{length-map}
use Rattle.place_columns.specs.declared.lines.LineAt.{LineAt}
use Rattle.place_columns.specs.Lined.{number_of}
use Rattle.place_columns.specs.Rows.{line_of}
use Rattle.place_columns.proofs.Numbering.{number_beyond}
use Rattle.place_columns.proofs.lines.LineTable.number.Goals as goal

pub returns-in-None : goal.returns-in-None
returns-in-None c =
    let rows = c.self.inside.rows in
    let own = c.self.inside.own in
    let size : vec_len rows ≡ length (map line_of rows.items) = omega (arith, rows.ok.0, length-map rows.items line_of) in
    let test : false ≡ nat_lt c.args.by.session (length c.deref.result.now) = c.in-None.ensures.lookup.0 in
    let same : length c.deref.result.now ≡ length own.items = ap length c.deref.ensures.value in
    let far : length own.items ≤ c.args.by.session = grind (arith, nat_tests) in
    c.len.ensures ∙ size ∙ number_beyond (map line_of rows.items) own.items c.args.by c.self.invariant far ∙ ap (λ (t : List LineAt). number_of t c.args.by) c.self.view_is
