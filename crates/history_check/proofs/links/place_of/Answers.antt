use Rattle.std.proofs.Common.{rules}
use Rattle.std.proofs.lemmas.List.Sorted.{answers_always}
use Rattle.history_check.specs.declared.links.Slot.{Slot}
use Rattle.history_check.proofs.Searching.{as_option, searched}
use Rattle.history_check.proofs.Slots.{flat_order, key}
use Rattle.history_check.proofs.links.place_of.Goals as goal

pub returns : goal.returns
returns c =
    let facts = c.binary_search_by_key.ensures in
    let by_key = facts.position (λ (s : Slot). s.linked.id) (answers_always _ _ _ (λ f a r g called. search rules)) in
    rw c.ok.ensures.value (as_option key _ c.args.x c.binary_search_by_key.result (searched key _ c.args.x c.binary_search_by_key.result (flat_order c.args.slots.now c.requires) facts.bound by_key))
