use Rattle.std.proofs.Common.{List, ◌==◌, ap, subst, sym, ◌∙◌}
use Rattle.std.specs.List.{find}
use Rattle.tx_events.specs.IdLists.{Ascending}
use Rattle.history_check.specs.declared.links.OpenId.{OpenId}
use Rattle.history_check.specs.declared.links.Slot.{Slot}
use Rattle.history_check.specs.Links.{link_ids, links_of, opens}
use Rattle.history_check.proofs.OpenedSteps.{found_iff}
use Rattle.history_check.proofs.may.has_open.Goals as goal

pub find_open-requires : goal.find_open-requires
find_open-requires c = subst (λ (t : List Slot). Ascending (link_ids (links_of t))) (sym c.deref.ensures.value) c.requires.kept.linked.order

pub returns : goal.returns
returns c =
    rw c.is_some.ensures (found_iff c.args.table.now.events c.args.session (opens c.args.opened.now.slots.items) c.args.id c.find_open.result c.requires.opened (c.find_open.ensures ∙ ap (λ (t : List Slot). find (λ (o : OpenId). o.id == c.args.id) (opens t)) c.deref.ensures.value))
