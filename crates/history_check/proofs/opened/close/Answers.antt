use Rattle.std.proofs.Common.{◌≡◌, ◌≤◌, List, true, false, get_or, length, refl, ap, subst, sym, ◌∙◌, arith}
use Rattle.std.proofs.lemmas.List.{get_or_default}
use Rattle.history_check.specs.declared.links.Slot.{Slot}
use Rattle.history_check.specs.Links.{IsMissing, IsPlaceOf, opens}
use Rattle.history_check.proofs.Noting.{closed_already, closed_nowhere, closed_open, some_open}
use Rattle.history_check.proofs.opened.close.Goals as goal

pub overflow_sub-opened : goal.overflow_sub-opened
overflow_sub-opened c =
    let place = subst (λ (t : List Slot). IsPlaceOf t c.args.id c.in-Some.place) c.deref.ensures.value c.in-Some.ensures.some in
    let is_open : (get_or c.args.opened.now.slots.items c.in-Some.place c.index.result.now).is_open ≡ true = ap (λ (s : Slot). s.is_open) (sym c.index.ensures) ∙ c.if-index.true in
    omega (arith, some_open c.args.opened.now.slots.items c.in-Some.place c.index.result.now place.0 is_open, c.requires.count)

pub returns-then-index : goal.returns-then-index
returns-then-index c =
    let place = subst (λ (t : List Slot). IsPlaceOf t c.args.id c.in-Some.place) c.deref.ensures.value c.in-Some.ensures.some in
    let is_open : (get_or c.args.opened.now.slots.items c.in-Some.place c.index.result.now).is_open ≡ true = ap (λ (s : Slot). s.is_open) (sym c.index.ensures) ∙ c.if-index.true in
    let some : 1 ≤ length (opens c.args.opened.now.slots.items) = some_open c.args.opened.now.slots.items c.in-Some.place c.index.result.now place.0 is_open in
    closed_open c.args.id c.in-Some.place c.index.result.now (record { linked = c.index_mut.result.now.linked; is_open = false }) c.args.opened.now _ c.requires place is_open refl
    (ap (λ (s : Slot). s.linked) (c.index_mut.ensures.value ∙ get_or_default c.args.opened.now.slots.items c.in-Some.place c.index_mut.result.now c.index.result.now place.0))
    refl (omega (arith, some, c.requires.count))

pub returns-else-index : goal.returns-else-index
returns-else-index c =
    let place = subst (λ (t : List Slot). IsPlaceOf t c.args.id c.in-Some.place) c.deref.ensures.value c.in-Some.ensures.some in
    closed_already c.args.id c.in-Some.place c.index.result.now c.args.opened.now c.requires place (ap (λ (s : Slot). s.is_open) (sym c.index.ensures) ∙ c.if-index.false)

pub returns-in-None : goal.returns-in-None
returns-in-None c = closed_nowhere c.args.id c.args.opened.now c.requires (subst (λ (t : List Slot). IsMissing t c.args.id) c.deref.ensures.value c.in-None.ensures.none)
