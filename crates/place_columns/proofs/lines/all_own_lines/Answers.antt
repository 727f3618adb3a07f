use Rattle.std.proofs.Common.{◌≡◌, ◌++◌, ◌∷◌, [], List, ap, sym, ◌∙◌, map, take}
use Rattle.std.specs.Global.{Vec}
use Rattle.std.proofs.lemmas.List.{map-append, map_more}
use Rattle.place_columns.specs.declared.own.Own.{Own}
use Rattle.place_columns.specs.declared.lines.OwnLine.{OwnLine}
use Rattle.place_columns.specs.Rows.{own_line}
use Rattle.place_columns.proofs.lines.all_own_lines.Goals as goal

pub loop-own-preserved : goal.loop-own-preserved
loop-own-preserved c =
    let n = c.loop-own.own-index in
    let lists = c.args.lists.now in
    let f = λ (x : Vec OwnLine). map own_line x.items in
    let g = λ (x : Vec Own). x.items in
    let own = c.own-item.result in
    let lines = c.in_ok-own_lines.field-0 in
    let same : map own_line lines.items ≡ own.items = c.in_ok-own_lines.ensures ∙ c.as_slice.ensures.value in
    ap (λ (t : List (Vec OwnLine)). map f t) c.in_ok-push.ensures.items
    ∙ map-append f c.loop-own.all.items (lines ∷ [])
    ∙ ap (λ (t : List (List Own)). t ++ map own_line lines.items ∷ []) c.loop-own.invariant
    ∙ ap (λ (t : List Own). map g (take n lists) ++ t ∷ []) (same ∙ ap (λ (v : Vec Own). v.items) c.own-item.is)
    ∙ sym (map_more g lists n own c.loop-own-test.true)
