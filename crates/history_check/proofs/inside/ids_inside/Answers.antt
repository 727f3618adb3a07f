use Rattle.std.proofs.Common.{List, ℕ, eqb, length, map, subst, sym, ap, ◌≡◌, ◌∙◌, ◌<◌}
use Rattle.std.proofs.lemmas.List.Filters.{dedup_is}
use Rattle.std.specs.List.{AllByRecursion, dedup, filter}
use Rattle.std.specs.Prelude.{IfOk}
use Rattle.tx_events.specs.Running.{open_ids}
use Rattle.tx_events.specs.Savepoints.{is_inside}
use Rattle.history_check.specs.declared.links.Slot.{Slot}
use Rattle.history_check.specs.Inside.{AreInside}
use Rattle.history_check.specs.Links.{id_at}
use Rattle.history_check.proofs.Insides.{ids_found, places_within}
use Rattle.history_check.proofs.inside.ids_inside.Goals as goal

pub ids_at-requires : goal.ids_at-requires
ids_at-requires c =
    let d : c.dedup.new.self.items ≡ dedup eqb c.sort_unstable.new.self.items = dedup_is eqb c.sort_unstable.new.self.items c.dedup.new.self.items c.dedup.ensures.filtered in
    let i = subst (λ (t : List Slot). AreInside c.args.table.now.events c.args.id t c.in_ok-places.places.items) c.deref.ensures.value c.in_ok-places.ensures in
    subst (λ (t : List Slot). AllByRecursion (λ k. k < length t) c.deref-3.result.now) (sym c.deref-2.ensures.value)
    (subst (AllByRecursion (λ k. k < length c.args.opened.now.slots.items)) (sym c.deref-3.ensures.value)
    (places_within c.args.table.now.events c.args.id c.args.opened.now.slots.items c.in_ok-places.places.items c.sort_unstable.new.self.items c.dedup.new.self.items i c.sort_unstable.ensures.permutation d))

pub returns : goal.returns
returns c =
    let d : c.dedup.new.self.items ≡ dedup eqb c.sort_unstable.new.self.items = dedup_is eqb c.sort_unstable.new.self.items c.dedup.new.self.items c.dedup.ensures.filtered in
    let i = subst (λ (t : List Slot). AreInside c.args.table.now.events c.args.id t c.in_ok-places.places.items) c.deref.ensures.value c.in_ok-places.ensures in
    let ids = subst (λ (t : List Slot). IfOk c.ids_at.result (λ ids. ids.items ≡ map (id_at t) c.deref-3.result.now)) c.deref-2.ensures.value c.ids_at.ensures in
    let at = subst (λ (t : List ℕ). IfOk c.ids_at.result (λ ids. ids.items ≡ map (id_at c.args.opened.now.slots.items) t)) c.deref-3.ensures.value ids in
    ids_found c.args.table.now.base c.args.table.now.events c.args.session c.args.id c.args.opened.now.slots.items c.in_ok-places.places.items c.sort_unstable.new.self.items c.dedup.new.self.items c.ids_at.result
    c.events-legal.ensures.legal c.requires.opened c.requires.kept.linked i c.sort_unstable.ensures.permutation c.sort_unstable.ensures.sorted d at
