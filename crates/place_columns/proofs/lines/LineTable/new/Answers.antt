use Rattle.std.proofs.Common.{List, ap, map, ◌∙◌}
use Rattle.std.specs.Global.{Vec}
use Rattle.place_columns.specs.declared.own.Own.{Own}
use Rattle.place_columns.specs.declared.lines.LineAt.{LineAt}
use Rattle.place_columns.specs.Lined.{bys_of}
use Rattle.place_columns.specs.Rows.{line_of}
use Rattle.place_columns.proofs.Making.{sessions_are, table_is}
use Rattle.place_columns.proofs.lines.LineTable.new.Goals as goal

pub own_places-requires : goal.own_places-requires
own_places-requires c =
    sessions_are c.in_ok-lines.lines.items c.args.steps.now c.as_slice-3.result.now c.args.sessions c.in_ok-lines.ensures
    (c.as_slice-3.ensures.value ∙ c.in_ok-bys.ensures ∙ ap (λ (t : List LineAt). bys_of t) c.as_slice-2.ensures.value) c.requires.sessions

pub invariant_of-result : goal.invariant_of-result
invariant_of-result c =
    table_is c.in_ok-lines.lines.items (map line_of c.in_ok-rows.rows.items) c.args.steps.now c.as_slice-3.result.now c.args.sessions c.in_ok-places.places.items c.in_ok-own.own.items
    (c.in_ok-rows.ensures ∙ c.as_slice.ensures.value) c.in_ok-lines.ensures
    (c.as_slice-3.ensures.value ∙ c.in_ok-bys.ensures ∙ ap (λ (t : List LineAt). bys_of t) c.as_slice-2.ensures.value) c.requires.sessions c.requires.order c.in_ok-places.ensures
    (c.in_ok-own.ensures ∙ ap (λ (t : List (Vec Own)). map (λ (l : Vec Own). l.items) t) c.as_slice-4.ensures.value)
