use Rattle.std.proofs.Common.{◌≡◌, ◌+◌, ◌<◌, List, length, get_or, take, sym, subst, arith}
use Rattle.tx_events.specs.declared.multi.MultiEvent.{MultiEvent}
use Rattle.tx_events.specs.Multis.{Pin, pins}
use Rattle.history_places.specs.Starts.{BeginsAs}
use Rattle.multi_rules.specs.declared.limits.LimitAt.{LimitAt}
use Rattle.multi_rules.specs.Limits.{AreLimitsBelow, IsTally}
use Rattle.multi_rules.proofs.Ordered.{limits_push}
use Rattle.multi_rules.proofs.Tallied.{lets_go_held, more_fits, pins_most, pins_next}
use Rattle.multi_rules.proofs.limits.limits_along.Goals as goal

pub note_event-requires : goal.note_event-requires
note_event-requires c =
    let v = c.args.places.now in
    let place = c.loop-place.place in
    let e = c.index-events-place.result in
    let l = subst (λ (xs : List MultiEvent). place < length xs) c.events-events.ensures.value c.loop-place-test.true in
    let most = pins_most v.base (BeginsAs v.starts) v.events c.events-events.ensures.legal place (omega arith) in
    let small = c.loop-place.limits.small in
    let within = c.loop-place.limits.ok in
    let long = within.0 in
    let fits = within.1 in
    let size = c.loop-place.invariant.limits.size in
    more_fits (pins (take place v.events)) c.loop-place.counts e c.loop-place.invariant.tally (omega arith)

pub limit_at-requires-in-loop-place-clause-tally : goal.limit_at-requires-in-loop-place-clause-tally
limit_at-requires-in-loop-place-clause-tally c =
    let v = c.args.places.now in
    let place = c.loop-place.place in
    let e = c.index-events-place.result in
    let l = subst (λ (xs : List MultiEvent). place < length xs) c.events-events.ensures.value c.loop-place-test.true in
    let is = subst (λ (xs : List MultiEvent). e ≡ get_or xs place e) c.events-events.ensures.value c.index-events-place.is in
    let go = lets_go_held v.base (BeginsAs v.starts) v.events c.events-events.ensures.legal place e l is in
    subst (λ (ps : List Pin). IsTally ps c.note_event.new.counts) (sym (pins_next v.events place e l is)) (c.in_ok-note_event.ensures (pins (take place v.events)) c.loop-place.invariant.tally go)

pub loop-place-preserved : goal.loop-place-preserved
loop-place-preserved c =
    let v = c.args.places.now in
    let place = c.loop-place.place in
    let e = c.index-events-place.result in
    let l = subst (λ (xs : List MultiEvent). place < length xs) c.events-events.ensures.value c.loop-place-test.true in
    let is = subst (λ (xs : List MultiEvent). e ≡ get_or xs place e) c.events-events.ensures.value c.index-events-place.is in
    let go = lets_go_held v.base (BeginsAs v.starts) v.events c.events-events.ensures.legal place e l is in
    record {
      tally = subst (λ (ps : List Pin). IsTally ps c.note_event.new.counts) (sym (pins_next v.events place e l is)) (c.in_ok-note_event.ensures (pins (take place v.events)) c.loop-place.invariant.tally go);
      limits = subst (λ (xs : List LimitAt). AreLimitsBelow v.base v.events (place + 1 + 1) xs) (sym c.in_ok-push-2.ensures.items) (limits_push v.base v.events (place + 1) c.loop-place.limits.items c.limit_at-in-loop-place.result c.loop-place.invariant.limits c.limit_at-in-loop-place.ensures);
    }
