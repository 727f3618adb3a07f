use Rattle.std.proofs.Common.{◌++◌, ◌∷◌, [], List, Option, take, ap, sym, ◌∙◌}
use Rattle.std.specs.Global.{Vec}
use Rattle.std.specs.List.{cons_option, filter_map}
use Rattle.std.proofs.lemmas.List.{append-nil}
use Rattle.multi_rules.specs.declared.taken.Taken.{Taken}
use Rattle.multi_rules.specs.Snapped.{taken_at}
use Rattle.multi_rules.proofs.Listing.{none_here, taken_more}
use Rattle.multi_rules.proofs.taken.taken_of.Goals as goal
use Rattle.multi_rules.proofs.taken.taken_of.Goals.{in-Some+in_ok-make_first_room+in_ok-push, in_default}

pub loop-place-preserved : goal.loop-place-preserved
loop-place-preserved c =
    let n = c.loop-place.place-index in
    let snaps = c.args.snaps.now in
    let places = c.args.places.now in
    let before = filter_map (taken_at snaps) (take n places) in
    let more = taken_more snaps places n c.loop-place-test.true in
    elim c.match-taken_at.branch [
      | in-Some+in_ok-make_first_room+in_ok-push w ↦
          ap (λ (v : Vec Taken). v.items) w.taken-is
          ∙ w.in_ok-push.ensures.items
          ∙ ap (λ (t : List Taken). t ++ w.in-Some.t ∷ []) (w.make_first_room.ensures ∙ c.loop-place.invariant)
          ∙ ap (λ (t : List Taken). before ++ t) (sym (ap (λ (o : Option Taken). cons_option o []) (sym c.taken_at.ensures ∙ w.in-Some.is)))
          ∙ sym more
      | in_default w ↦
          ap (λ (v : Vec Taken). v.items) w.taken-is
          ∙ c.loop-place.invariant
          ∙ sym (append-nil before)
          ∙ ap (λ (t : List Taken). before ++ t) (sym (ap (λ (o : Option Taken). cons_option o []) (sym c.taken_at.ensures) ∙ none_here c.taken_at.result w.in_default.not-Some))
          ∙ sym more
    ]
