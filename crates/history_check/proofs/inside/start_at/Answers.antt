use Rattle.std.proofs.Common.{ap, sym, ◌∙◌, ◌&&◌, is_some, subst}
use Rattle.history_check.specs.declared.links.Slot.{Slot}
use Rattle.history_check.specs.Inside.{IsStart}
use Rattle.history_check.proofs.Insides.{starts_at, starts_nowhere}
use Rattle.history_check.proofs.inside.start_at.Goals as goal

pub returns-in-Some : goal.returns-in-Some
returns-in-Some c =
    starts_at c.args.slots.now c.args.id c.in-Some.place c.index-slots-place.result c.is_open_sub.result c.place_if.result c.requires c.in-Some.ensures.some
    (c.is_open_sub.ensures ∙ ap (λ (s : Slot). s.is_open && is_some s.linked.parent) c.index-slots-place.is) c.place_if.ensures

pub returns-in-None : goal.returns-in-None
returns-in-None c = subst (IsStart c.args.slots.now c.args.id) (sym c.new.ensures.items) (starts_nowhere c.args.slots.now c.args.id c.in-None.ensures.none)
