use Rattle.std.proofs.Common.{◌<◌, ◌++◌, ◌∷◌, [], ℕ, List, length, take, ap, sym, ◌∙◌, append_assoc, arith}
use Rattle.std.proofs.lemmas.List.{map-append}
use Rattle.history_check.specs.declared.links.OpenId.{OpenId}
use Rattle.history_check.specs.Links.{opens}
use Rattle.history_check.specs.Opened.{opened_ids}
use Rattle.history_check.proofs.Slots.{opens_more}
use Rattle.history_check.proofs.opened.push_ids.Goals as goal

pub loop-slot-preserved : goal.loop-slot-preserved
loop-slot-preserved c =
    let low : c.loop-slot.slot-index < length c.args.slots.now = omega arith in
    c.in_ok-push_id.ensures
    ∙ ap (λ (t : List ℕ). t ++ opened_ids (opens (c.slot-item.result ∷ []))) c.loop-slot.invariant
    ∙ append_assoc c.args.ids.now.items (opened_ids (opens (take c.loop-slot.slot-index c.args.slots.now))) (opened_ids (opens (c.slot-item.result ∷ [])))
    ∙ ap (λ (t : List ℕ). c.args.ids.now.items ++ t)
    (sym (ap opened_ids (opens_more c.args.slots.now c.loop-slot.slot-index c.slot-item.result low c.slot-item.is) ∙ map-append (λ (o : OpenId). o.id) (opens (take c.loop-slot.slot-index c.args.slots.now)) (opens (c.slot-item.result ∷ []))))
