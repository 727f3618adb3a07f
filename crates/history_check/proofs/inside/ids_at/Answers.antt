use Rattle.std.proofs.Common.{◌≡◌, ◌<◌, ◌++◌, ◌∷◌, [], ℕ, List, ap, sym, ◌∙◌, length, take, map, get_or, arith}
use Rattle.std.proofs.lemmas.List.{map_more}
use Rattle.history_check.specs.Links.{id_at}
use Rattle.history_check.proofs.Children.{id_there}
use Rattle.history_check.proofs.Insides.{place_at}
use Rattle.history_check.proofs.inside.ids_at.Goals as goal

pub loop-place-preserved : goal.loop-place-preserved
loop-place-preserved c =
    let k : ℕ = get_or c.args.places.now c.loop-place.place-index 0 in
    let within : get_or c.args.places.now c.loop-place.place-index 0 < length c.args.slots.now = place_at (λ k. k < length c.args.slots.now) c.args.places.now c.loop-place.place-index 0 c.requires (omega arith) in
    c.in_ok-push.ensures.items
    ∙ ap (λ (t : List ℕ). t ++ (get_or c.args.slots.now (get_or c.args.places.now c.loop-place.place-index 0) c.index-slots-place.result).linked.id ∷ []) c.loop-place.invariant
    ∙ ap (λ (n : ℕ). map (id_at c.args.slots.now) (take c.loop-place.place-index c.args.places.now) ++ n ∷ []) (sym (id_there c.args.slots.now k c.index-slots-place.result within))
    ∙ sym (map_more (id_at c.args.slots.now) c.args.places.now c.loop-place.place-index 0 (omega arith))
