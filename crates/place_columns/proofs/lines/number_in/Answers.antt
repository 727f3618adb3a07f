use Rattle.std.proofs.Common.{rules, of_calls, ◌≡◌, ◌<◌, ◌≤◌, ◌∙◌, nat_lt, length, map, true, false, Some, refl, ap, sym, arith}
use Rattle.std.specs.List.{slice_get}
use Rattle.std.proofs.lemmas.Bool.Decides.{nat_tests}
use Rattle.std.proofs.lemmas.Fn.{always_returns_same}
use Rattle.std.proofs.lemmas.List.{length-map}
use Rattle.std.proofs.lemmas.Option.{same_Some, slice_get_read, slice_get_within}
use Rattle.place_columns.specs.declared.lines.OwnLine.{OwnLine}
use Rattle.place_columns.specs.Lined.{bys_of}
use Rattle.place_columns.specs.Rows.{line_of, own_line}
use Rattle.place_columns.proofs.Numbering.{absent}
use Rattle.place_columns.proofs.Rows.{found_line, no_line_at, parted_lines}
use Rattle.place_columns.proofs.lines.number_in.Goals as goal

pub returns-then-from-by : goal.returns-then-from-by
returns-then-from-by c =
    let own = c.args.own.now in
    let at = c.partition_point-at.result in
    let o : OwnLine = c.in-Some.o.now in
    let test : true ≡ nat_lt at (length own) = c.in-Some.ensures.lookup.0 in
    let within : at < length own = grind (arith, nat_tests) in
    let there : slice_get own at ≡ Some o = slice_get_read own (length own) at o refl within c.in-Some.ensures.lookup.1 in
    c.from-then-from-by.ensures
    ∙ found_line (map line_of c.args.rows.now) c.args.by own at o c.requires.listed c.requires.order there (sym c.from.ensures ∙ c.if-from-by.true)

pub returns-else-from-by : goal.returns-else-from-by
returns-else-from-by c =
    let own = c.args.own.now in
    let by = c.args.by in
    let lines = map line_of c.args.rows.now in
    let bys = bys_of lines in
    let at = c.partition_point-at.result in
    let o : OwnLine = c.in-Some.o.now in
    let test : true ≡ nat_lt at (length own) = c.in-Some.ensures.lookup.0 in
    let within : at < length own = grind (arith, nat_tests) in
    let there : slice_get own at ≡ Some o = slice_get_read own (length own) at o refl within c.in-Some.ensures.lookup.1 in
    let point = c.partition_point-at.ensures.partitioned (λ (x : OwnLine). nat_lt x.command by.command) (always_returns_same _ _ _ (λ a r f k. search (rules, of_calls))) (parted_lines bys by.session by.command own c.requires.listed c.requires.order) in
    sym (length-map c.args.rows.now line_of)
    ∙ absent lines by (map own_line own) c.requires.listed
    (no_line_at bys by own at c.requires.listed c.requires.order point.0 point.1
    (λ x e f. c.if-from-by.false (c.from.ensures ∙ ap (λ (y : OwnLine). y.command) (same_Some o x (sym there ∙ e)) ∙ f)))

pub returns-in-None : goal.returns-in-None
returns-in-None c =
    let own = c.args.own.now in
    let by = c.args.by in
    let lines = map line_of c.args.rows.now in
    let bys = bys_of lines in
    let at = c.partition_point-at.result in
    let test : false ≡ nat_lt at (length own) = c.in-None.ensures.lookup.0 in
    let past : length own ≤ at = grind (arith, nat_tests) in
    let point = c.partition_point-at.ensures.partitioned (λ (x : OwnLine). nat_lt x.command by.command) (always_returns_same _ _ _ (λ a r f k. search (rules, of_calls))) (parted_lines bys by.session by.command own c.requires.listed c.requires.order) in
    sym (length-map c.args.rows.now line_of)
    ∙ absent lines by (map own_line own) c.requires.listed
    (no_line_at bys by own at c.requires.listed c.requires.order point.0 point.1
    (λ x e f. let l = slice_get_within own at x e in absurd (omega arith)))
