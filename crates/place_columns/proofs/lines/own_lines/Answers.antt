use Rattle.std.proofs.Common.{◌≡◌, List, ap, ◌∙◌, map, get_or}
use Rattle.place_columns.specs.declared.own.Own.{Own}
use Rattle.place_columns.specs.declared.lines.OwnLine.{OwnLine}
use Rattle.place_columns.specs.Rows.{own_line}
use Rattle.place_columns.proofs.Rows.{map_push}
use Rattle.place_columns.proofs.lines.own_lines.Goals as goal

pub loop-o-preserved : goal.loop-o-preserved
loop-o-preserved c =
    let d : Own = record { command = 0; place = 0 } in
    let o : Own = get_or c.args.own.now c.loop-o.o-index d in
    let line : OwnLine = record { command = c.in_ok-small.field-0; number = c.in_ok-small-2.field-0 } in
    let same : own_line line ≡ o = ap (λ n. record { command = n; place = c.in_ok-small-2.field-0 }) c.in_ok-small.ensures ∙ ap (λ n. record { command = o.command; place = n }) c.in_ok-small-2.ensures in
    ap (λ (t : List OwnLine). map own_line t) c.in_ok-push.ensures.items
    ∙ map_push own_line c.loop-o.lines.items line c.args.own.now c.loop-o.o-index d c.loop-o.invariant c.loop-o-test.true same
