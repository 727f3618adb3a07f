use Rattle.std.proofs.Common.{ap, sym, ◌∙◌}
use Rattle.history_check.specs.Links.{open_in}
use Rattle.history_check.proofs.Slots.{find_at, find_none, flat_order}
use Rattle.history_check.proofs.links.find_open.Goals as goal

pub returns-in-Some : goal.returns-in-Some
returns-in-Some c =
    c.open_in.ensures ∙ ap open_in c.index-slots-place.is
    ∙ sym (find_at c.args.slots.now c.args.x c.in-Some.place c.index-slots-place.result (flat_order c.args.slots.now c.requires) c.in-Some.ensures.some)

pub returns-in-None : goal.returns-in-None
returns-in-None c = sym (find_none c.args.slots.now c.args.x c.in-None.ensures.none)
