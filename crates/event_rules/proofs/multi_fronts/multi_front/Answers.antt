use Rattle.std.proofs.Common.{◌≡◌, sym, subst, ◌∙◌}
use Rattle.tx_events.specs.Multis.{MultiMayCome}
use Rattle.history_places.specs.MultiTold.{MultiReplayed}
use Rattle.history_places.specs.Starts.{BeginsAs}
use Rattle.event_rules.specs.Fronts.{IsMultiFront}
use Rattle.event_rules.proofs.MultiFronting.{multi_front_here, multi_front_whole}
use Rattle.event_rules.proofs.multi_fronts.multi_front.Goals as goal

pub returns-then-not-branch : goal.returns-then-not-branch
returns-then-not-branch c =
    let stays = c.in_ok-add.ensures.refused c.if-not-branch.true in
    subst (λ (r : MultiReplayed). IsMultiFront c.args.base c.args.starts.now c.args.multis.now r) (sym stays.1)
    (multi_front_here c.args.base c.args.starts.now c.args.multis.now c.loop-event.places c.loop-event.event-index c.event-item.result
    c.loop-event.invariant.base c.loop-event.invariant.starts c.loop-event-test.true c.loop-event.invariant.sofar c.event-item.is stays.0)

pub returns : goal.returns
returns c =
    multi_front_whole c.args.base c.args.starts.now c.args.multis.now c.loop-event.places c.loop-event.event-index
    c.loop-event.invariant.base c.loop-event.invariant.starts c.loop-event-test.false c.loop-event.invariant.sofar

pub add-requires : goal.add-requires
add-requires c = sym c.loop-event.invariant.starts
