use Rattle.std.proofs.Common.{List, ◌==◌, ap, subst, sym, ◌∙◌}
use Rattle.std.specs.List.{find}
use Rattle.tx_events.specs.IdLists.{Ascending}
use Rattle.history_check.specs.declared.links.OpenId.{OpenId}
use Rattle.history_check.specs.declared.links.Slot.{Slot}
use Rattle.history_check.specs.Links.{link_ids, links_of, opens}
use Rattle.history_check.proofs.OpenedSteps.{found_sub, not_open}
use Rattle.history_check.proofs.may.is_open_sub.Goals as goal

pub find_open-requires : goal.find_open-requires
find_open-requires c = subst (λ (t : List Slot). Ascending (link_ids (links_of t))) (sym c.deref.ensures.value) c.requires.kept.linked.order

pub returns-in-Some : goal.returns-in-Some
returns-in-Some c = rw c.is_some.ensures (found_sub c.args.table.now.base c.args.table.now.events c.args.session (opens c.args.opened.now.slots.items) c.args.id c.in-Some.found c.events-legal.ensures.legal c.requires.opened (sym (c.find_open.ensures ∙ ap (λ (t : List Slot). find (λ (o : OpenId). o.id == c.args.id) (opens t)) c.deref.ensures.value) ∙ c.in-Some.is))

pub returns-in-None : goal.returns-in-None
returns-in-None c = (λ t. absurd cc, λ k. absurd (not_open c.args.table.now.events c.args.session (opens c.args.opened.now.slots.items) c.args.id c.requires.opened (sym (c.find_open.ensures ∙ ap (λ (t : List Slot). find (λ (o : OpenId). o.id == c.args.id) (opens t)) c.deref.ensures.value) ∙ c.in-None.is) k.0))
