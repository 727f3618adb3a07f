use Rattle.std.proofs.Common.{◌≤◌, sym, ◌∙◌, ap, subst, length, take, List}
use Rattle.tx_events.specs.declared.event.Event.{Event}
use Rattle.history_check.specs.GivenIds.{AreKept, is_committed}
use Rattle.history_check.specs.Replays.{Replayed}
use Rattle.history_check.proofs.GivenSteps.{kept_ascend}
use Rattle.history_check.proofs.Seeing.{visible_is}
use Rattle.history_check.proofs.replay.HistoryReplay.was_visible.Goals as goal

pub was_committed-since-requires : goal.was_committed-since-requires
was_committed-since-requires c =
    kept_ascend c.self.inside.table.base c.self.inside.table.events c.as_slice.result.now c.events-legal.ensures.legal (subst (AreKept c.self.inside.table.events) (sym c.as_slice.ensures.value) c.self.invariant.given)

pub returns : goal.returns
returns c =
    let same = ap (λ (r : Replayed). r.events) c.self.view_is in
    let place : c.args.place ≤ length c.self.inside.table.events = subst (λ (h : List Event). c.args.place ≤ length h) (sym same) c.requires.place in
    let kept = subst (AreKept c.self.inside.table.events) (sym c.as_slice.ensures.value) c.self.invariant.given in
    c.either.ensures
    ∙ visible_is c.args.committed.now (take c.args.place c.args.self.now.events) c.args.x c.is_known-known.result c.was_committed-since.result c.is_known-known.ensures
    (c.was_committed-since.ensures c.self.inside.table.base c.self.inside.table.events c.events-legal.ensures.legal kept place ∙ ap (λ (h : List Event). is_committed (take c.args.place h) c.args.x) same)
