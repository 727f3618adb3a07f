use Rattle.std.proofs.Common.{◌≡◌, ap, sym, ◌∙◌, take, true, false, ◌==◌}
use Rattle.std.specs.BTreeSet.{contains}
use Rattle.std.specs.List.{list_any}
use Rattle.std.specs.Ordering.{nat_cmp}
use Rattle.tx_events.specs.Visible.{is_visible}
use Rattle.history_places.proofs.BaseIds.{seen_in_base, seen_since}
use Rattle.history_places.proofs.visible.was_visible.Goals as goal

pub returns-then-contains : goal.returns-then-contains
returns-then-contains g c =
    let test : c.contains.result ≡ list_any (λ z. z == c.args.x) g.ids = c.contains.ensures ∙ ap (contains nat_cmp c.args.committed.now) c.number.ensures.value ∙ c.requires.0 c.args.x in
    seen_in_base g.ids (take c.args.place c.args.replay.now.events) c.args.x (sym test ∙ c.if-contains.true)

pub returns : goal.returns
returns g c =
    let test : c.contains.result ≡ list_any (λ z. z == c.args.x) g.ids = c.contains.ensures ∙ ap (contains nat_cmp c.args.committed.now) c.number.ensures.value ∙ c.requires.0 c.args.x in
    c.was_visible.ensures ∙ seen_since g.ids (take c.args.place c.args.replay.now.events) c.args.x (sym test ∙ c.if-contains.false)
