use Rattle.std.proofs.Common.{◌<◌, [], ◌∷◌, ◌++◌, length, take, map, sym, ap, subst, ◌∙◌, arith}
use Rattle.std.proofs.lemmas.List.{map-append}
use Rattle.tx_events.specs.IdLists.{Ascending}
use Rattle.history_check.specs.declared.links.OpenId.{OpenId}
use Rattle.history_check.specs.GivenIds.{given_ids, with_place}
use Rattle.history_check.specs.Links.{opens}
use Rattle.history_check.specs.Opened.{opened_ids}
use Rattle.history_check.proofs.GivenSteps.{ids_placed}
use Rattle.history_check.proofs.Marks.{mark_none}
use Rattle.history_check.proofs.Noting.{slot_marks}
use Rattle.history_check.proofs.Slots.{opens_more}
use Rattle.history_check.proofs.given.mark_all.Goals as goal

pub loop-slot-init : goal.loop-slot-init
loop-slot-init c = mark_none c.args.items.now c.args.place

pub mark_open-near-requires : goal.mark_open-near-requires
mark_open-near-requires c = subst Ascending (sym (ap given_ids c.loop-slot.invariant ∙ ids_placed _ _ _)) c.requires

pub loop-slot-preserved : goal.loop-slot-preserved
loop-slot-preserved c =
    let low : c.loop-slot.slot-index < length c.args.slots.now = omega arith in
    c.mark_open-near.ensures
    ∙ ap (map (with_place (opened_ids (opens (c.slot-item.result ∷ []))) c.args.place)) c.loop-slot.invariant
    ∙ slot_marks c.slot-item.result c.args.items.now (opened_ids (opens (take c.loop-slot.slot-index c.args.slots.now))) c.args.place
    ∙ ap (λ l. map (with_place l c.args.place) c.args.items.now)
    (sym (ap opened_ids (opens_more c.args.slots.now c.loop-slot.slot-index c.slot-item.result low c.slot-item.is) ∙ map-append (λ (o : OpenId). o.id) (opens (take c.loop-slot.slot-index c.args.slots.now)) (opens (c.slot-item.result ∷ []))))
