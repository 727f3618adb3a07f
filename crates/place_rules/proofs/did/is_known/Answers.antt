use Rattle.std.proofs.Common.{◌≡◌, ◌==◌, refl, ap, sym, ◌∙◌, inl}
use Rattle.std.specs.BTreeSet.{contains}
use Rattle.std.specs.List.{list_any}
use Rattle.std.specs.Ordering.{nat_cmp}
use Rattle.history_places.proofs.BaseIds.{in_base}
use Rattle.place_rules.proofs.did.is_known.Goals as goal

pub returns-then-contains : goal.returns-then-contains
returns-then-contains g c =
    let test : c.contains.result ≡ list_any (λ z. z == c.args.id) g.did.ids = c.contains.ensures ∙ ap (contains nat_cmp c.args.committed.now) c.number.ensures.value ∙ c.requires.0 c.args.id in
    (λ t. inl (in_base g.did.ids c.args.id (sym test ∙ c.if-contains.true)), λ k. refl)
