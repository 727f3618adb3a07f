use Rattle.std.proofs.Common.{ℕ, sym, ◌∙◌}
use Rattle.std.specs.Ordering.{is_eq, nat_cmp}
use Rattle.std.proofs.lemmas.List.Sorted.{IsNonDecreasingBy-from_sort, list_any-IsPermutation}
use Rattle.id_sets.proofs.Asking.{by_equal}
use Rattle.id_sets.proofs.IdSet.of.Goals as goal

pub invariant_of-result : goal.invariant_of-result
invariant_of-result c = IsNonDecreasingBy-from_sort (λ (x : ℕ). x) c.sort_unstable.new.self.items c.sort_unstable.ensures.sorted

pub returns : goal.returns
returns c = λ x.
    sym (list_any-IsPermutation (λ y. is_eq (nat_cmp x y)) c.args.ids.items c.sort_unstable.new.self.items c.sort_unstable.ensures.permutation)
    ∙ by_equal x c.args.ids.items
