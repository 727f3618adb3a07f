use Rattle.std.proofs.Common.{◌≡◌, List, [], ◌∷◌, ◌++◌, length, take, ap, sym, subst, ◌∙◌, arith}
use Rattle.std.specs.List.{HoldsAt}
use Rattle.tx_events.specs.declared.multi.MultiEvent.{MultiEvent}
use Rattle.tx_events.specs.declared.record.Counters.{Counters}
use Rattle.tx_events.specs.Multis.{AreLegalMultis, multi_counters}
use Rattle.tx_events.proofs.ListSteps.{length_push}
use Rattle.history_places.specs.Starts.{BeginsAs}
use Rattle.checkpoint_rules.specs.Behind.{counters_with}
use Rattle.checkpoint_rules.proofs.Columns.{column_more, counters_push, further, may_at, small_next}
use Rattle.checkpoint_rules.proofs.behind.multi_counters_of.Goals as goal

pub counters_with-counters-requires : goal.counters_with-counters-requires
counters_with-counters-requires c =
    let m = c.args.multis.now in
    let known = BeginsAs m.starts in
    let i = c.loop-event.event-index in
    let e = c.event-item.result in
    let h = c.events-events.result.now in
    let legal = subst (λ (t : List MultiEvent). AreLegalMultis c.args.base.now known t) (sym c.events-events.ensures.value)
    (subst (λ (b : Counters). AreLegalMultis b known m.events) (sym c.requires) c.events-events.ensures.legal) in
    small_next c.args.base.now known (take i h) e (may_at c.args.base.now known h i e legal c.loop-event-test.true c.event-item.is)

pub loop-event-preserved : goal.loop-event-preserved
loop-event-preserved c =
    let m = c.args.multis.now in
    let known = BeginsAs m.starts in
    let base = c.args.base.now in
    let i = c.loop-event.event-index in
    let e = c.event-item.result in
    let h = c.events-events.result.now in
    let inv = c.loop-event.invariant in
    let legal = subst (λ (t : List MultiEvent). AreLegalMultis base known t) (sym c.events-events.ensures.value)
    (subst (λ (b : Counters). AreLegalMultis b known m.events) (sym c.requires) c.events-events.ensures.legal) in
    let may = may_at base known h i e legal c.loop-event-test.true c.event-item.is in
    let items = c.in_ok-push.ensures.items in
    let more = column_more base h c.loop-event.column.items c.same.result i inv.size inv.each (c.same.ensures ∙ inv.here) in
    let longer : length c.push.new.self.items ≡ length (c.loop-event.column.items ++ c.same.result ∷ []) = ap length items in
    let one = length_push c.loop-event.column.items c.same.result in
    record {
      here = c.counters_with-counters.ensures ∙ ap (λ (x : Counters). counters_with x e) inv.here ∙ sym (counters_push base known (take i h) e may)
          ∙ ap (multi_counters base) (further h i e c.loop-event-test.true c.event-item.is);
      size = omega (arith, longer, one, inv.size);
      each = λ p l. subst (λ (xs : List Counters). HoldsAt (λ (x : Counters). x ≡ multi_counters base (take p h)) xs p) (sym items) (more p l);
    }
