use Rattle.std.proofs.Common.{Some, subst, sym, ap, ◌≡◌, ◌∙◌, List, ◌++◌, ◌∷◌, [], length, arith}
use Rattle.std.proofs.lemmas.List.{take_at}
use Rattle.history_check.specs.declared.links.Slot.{Slot}
use Rattle.history_check.specs.Links.{IsAdded, IsLedTo, links_of, opens, slot_of}
use Rattle.history_check.proofs.Linking.{led_length, sub_added}
use Rattle.history_check.proofs.links.push_sub.Goals as goal

pub returns : goal.returns
returns c =
    let leads = subst (λ (t : List Slot). IsLedTo c.args.parent c.len-place.result c.lead_from-before.result (links_of t) (links_of c.lead_from-before.new.slots)) c.deref_mut.ensures.value c.lead_from-before.ensures.leads in
    let size : length c.lead_from-before.new.slots ≡ length c.args.slots.now.items = led_length c.args.slots.now.items c.lead_from-before.new.slots c.args.parent c.len-place.result c.lead_from-before.result leads in
    let ends : length c.args.slots.now.items ≡ c.args.slots.now.len = omega arith in
    let place : c.len-place.result ≡ length c.args.slots.now.items = omega arith in
    let led = subst (λ n. IsLedTo c.args.parent n c.lead_from-before.result (links_of c.args.slots.now.items) (links_of c.lead_from-before.new.slots)) place leads in
    let added =
    sub_added c.args.slots.now.items c.lead_from-before.new.slots c.args.parent c.args.id c.lead_from-before.result c.requires.linked c.requires.above led (c.lead_from-before.ensures.opens ∙ ap opens c.deref_mut.ensures.value) in
    subst (IsAdded c.args.id (Some c.args.parent) c.args.slots.now.items)
    (sym (c.push_reserved.ensures.items ∙ ap (λ (t : List Slot). t ++ slot_of c.args.id (Some c.args.parent) c.lead_from-before.result ∷ []) (take_at c.lead_from-before.new.slots _ c.args.slots.now.len (size ∙ ends))))
    added
