use Rattle.std.proofs.Common.{◌++◌, [], List, ap, get_or, ◌∙◌}
use Rattle.std.specs.List.{cons_option}
use Rattle.std.specs.Option.{is_some}
use Rattle.multi_rules.specs.declared.taken.Taken.{Taken}
use Rattle.multi_rules.specs.Snapped.{taken_at}
use Rattle.multi_rules.proofs.Listing.{no_one, taken_more}
use Rattle.multi_rules.proofs.taken.takes_any.Goals as goal

pub loop-place-preserved : goal.loop-place-preserved
loop-place-preserved c =
    let n = c.loop-place.place-index in
    let snaps = c.args.snaps.now in
    let places = c.args.places.now in
    let here = taken_at snaps (get_or places n 0) in
    taken_more snaps places n c.loop-place-test.true
    ∙ ap (λ (t : List Taken). t ++ cons_option here []) c.loop-place.invariant
    ∙ no_one here (c.if-is_some.ensures ∙ ap is_some c.taken_at.ensures)
