use Rattle.std.proofs.Common.{refl, ◌<◌, length, get_or, subst, sym}
use Rattle.history_check.specs.Links.{IsMissing, link_ids, links_of}
use Rattle.history_check.proofs.Linking.{led_at, leading}
use Rattle.history_check.proofs.Slots.{not_missing, same_opens}
use Rattle.history_check.proofs.links.lead_from.Goals as goal

pub returns-in-Some-clause-leads : goal.returns-in-Some-clause-leads
returns-in-Some-clause-leads c =
    led_at c.args.slots.now c.args.parent c.args.place c.in-Some.at c.index-slots-at.result c.index-slots-at-in-Some.result c.in-Some.ensures.some.0 c.in-Some.ensures.some.1

pub returns-in-Some-clause-opens : goal.returns-in-Some-clause-opens
returns-in-Some-clause-opens c =
    same_opens c.args.slots.now c.in-Some.at c.index-slots-at-in-Some.result (leading c.args.place (get_or c.args.slots.now c.in-Some.at c.index-slots-at-in-Some.result)) c.in-Some.ensures.some.0 refl refl

pub returns-in-None-clause-leads : goal.returns-in-None-clause-leads
returns-in-None-clause-leads c = absurd (not_missing c.args.slots.now c.args.parent c.in-None.ensures.none c.requires.parent)
