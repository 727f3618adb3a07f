use Rattle.std.proofs.Common.{◌≡◌, ◌+◌, ◌∙◌, ◌++◌, ◌∷◌, [], take, ap, sym, subst, arith}
use Rattle.tx_events.specs.Multis.{next_made}
use Rattle.tx_events.specs.Ids.{next_multi}
use Rattle.place_columns.specs.Columns.{IsColumn}
use Rattle.place_columns.proofs.Counting.{at_more, made_next, made_same, more}
use Rattle.place_columns.proofs.counts.multis_made.Goals as goal
use Rattle.place_columns.proofs.counts.multis_made.Goals.{then-gives_multi, else-gives_multi}

pub loop-event-preserved : goal.loop-event-preserved
loop-event-preserved c =
    let f = next_made c.args.first in
    let front = take c.loop-event.event-index c.args.events.now in
    let inv = c.loop-event.invariant in
    let next : c.if-gives_multi.next ≡ f (front ++ c.event-item.result ∷ []) =
    elim c.if-gives_multi.branch [
      | then-gives_multi w ↦ w.next-is ∙ w.multi_behind-next.ensures.value ∙ ap next_multi inv.next ∙ sym (made_next c.args.first front c.event-item.result (sym c.gives_multi.ensures ∙ w.if-gives_multi.true))
      | else-gives_multi w ↦ w.next-is ∙ inv.next ∙ sym (made_same c.args.first front c.event-item.result (sym c.gives_multi.ensures ∙ w.if-gives_multi.false))
    ] in
    record {
      column = subst (IsColumn f (take (c.loop-event.event-index + 1) c.args.events.now)) (sym c.in_ok-push.ensures.items)
          (more f c.args.events.now c.loop-event.event-index c.event-item.result c.loop-event.column.items c.if-gives_multi.next c.loop-event-test.true c.event-item.is next inv.column);
      next = at_more f c.args.events.now c.loop-event.event-index c.event-item.result c.loop-event.column.items c.if-gives_multi.next c.loop-event-test.true c.event-item.is next;
      near = elim c.if-gives_multi.branch [
        | then-gives_multi w ↦ omega arith
        | else-gives_multi w ↦ omega arith
      ];
    }
