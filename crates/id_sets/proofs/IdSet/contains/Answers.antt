use Rattle.std.proofs.Common.{◌≡◌, ℕ, List, ap, subst, sym, ◌∙◌}
use Rattle.std.specs.BTreeSet.{BTreeSet, contains}
use Rattle.std.specs.List.{list_any}
use Rattle.std.specs.List.Sorted.{IsNonDecreasing}
use Rattle.std.specs.Ordering.{is_eq, nat_cmp}
use Rattle.id_sets.proofs.Asking.{found}
use Rattle.id_sets.proofs.IdSet.contains.Goals as goal

pub returns : goal.returns
returns c =
    let x : ℕ = c.args.id in
    let items : c.deref.result.now ≡ c.self.inside.ids.items = c.deref.ensures.value in
    c.is_ok.ensures.value
    ∙ found c.deref.result.now x c.binary_search.result c.binary_search.ensures.position (subst (λ (t : List ℕ). IsNonDecreasing t) (sym items) c.self.invariant)
    ∙ ap (λ (t : List ℕ). list_any (λ y. is_eq (nat_cmp x y)) t) items
    ∙ ap (λ (s : BTreeSet ℕ). contains nat_cmp s x) c.self.view_is
