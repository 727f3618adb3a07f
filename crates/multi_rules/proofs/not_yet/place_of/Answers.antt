use Rattle.std.proofs.Common.{rules}
use Rattle.std.proofs.lemmas.List.Sorted.{answers_always}
use Rattle.history_check.proofs.Searching.{as_option, searched}
use Rattle.history_places.specs.declared.start.Start.{Start}
use Rattle.multi_rules.proofs.not_yet.place_of.Goals as goal

pub returns : goal.returns
returns c =
    let facts = c.binary_search_by_key.ensures in
    let by_key = facts.position (λ (s : Start). s.multi) (answers_always _ _ _ (λ f a r g called. search rules)) in
    rw c.ok.ensures.value (as_option (λ (s : Start). s.multi) _ c.args.multi c.binary_search_by_key.result (searched (λ (s : Start). s.multi) _ c.args.multi c.binary_search_by_key.result c.requires facts.bound by_key))
