use Rattle.std.proofs.Common.{List, ◌==◌, ap, ◌≡◌, ◌↔◌, Contains, IsTrue, sym, subst, true, ◌∙◌}
use Rattle.tx_events.specs.Families.{is_top}
use Rattle.tx_events.specs.Running.{open_ids}
use Rattle.std.specs.List.{find}
use Rattle.tx_events.specs.IdLists.{Ascending}
use Rattle.history_check.specs.declared.links.OpenId.{OpenId}
use Rattle.history_check.specs.declared.links.Slot.{Slot}
use Rattle.history_check.specs.Links.{link_ids, links_of, opens}
use Rattle.history_check.proofs.OpenedSteps.{found_top, none_told, not_open}
use Rattle.history_check.proofs.may.is_open_top.Goals as goal

pub find_open-requires : goal.find_open-requires
find_open-requires c = subst (λ (t : List Slot). Ascending (link_ids (links_of t))) (sym c.deref.ensures.value) c.requires.kept.linked.order

pub returns-in-Some : goal.returns-in-Some
returns-in-Some c = subst (λ b. IsTrue b ↔ (Contains (open_ids c.args.session c.args.table.now.events) c.args.id × (is_top c.args.table.now.events c.args.id ≡ true))) (none_told c.in-Some.found.parent c.is_none.result c.is_none.ensures) (found_top c.args.table.now.base c.args.table.now.events c.args.session (opens c.args.opened.now.slots.items) c.args.id c.in-Some.found c.events-legal.ensures.legal c.requires.opened (sym (c.find_open.ensures ∙ ap (λ (t : List Slot). find (λ (o : OpenId). o.id == c.args.id) (opens t)) c.deref.ensures.value) ∙ c.in-Some.is))

pub returns-in-None : goal.returns-in-None
returns-in-None c = (λ t. absurd cc, λ k. absurd (not_open c.args.table.now.events c.args.session (opens c.args.opened.now.slots.items) c.args.id c.requires.opened (sym (c.find_open.ensures ∙ ap (λ (t : List Slot). find (λ (o : OpenId). o.id == c.args.id) (opens t)) c.deref.ensures.value) ∙ c.in-None.is) k.0))
