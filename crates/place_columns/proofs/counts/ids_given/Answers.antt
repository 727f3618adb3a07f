use Rattle.std.proofs.Common.{◌≡◌, ◌+◌, ◌∙◌, ◌++◌, ◌∷◌, [], take, ap, sym, subst, arith}
use Rattle.tx_events.specs.History.{next_given}
use Rattle.tx_events.specs.Ids.{next_id}
use Rattle.place_columns.specs.Columns.{IsColumn}
use Rattle.place_columns.proofs.Counting.{at_more, given_next, given_same, more}
use Rattle.place_columns.proofs.counts.ids_given.Goals as goal
use Rattle.place_columns.proofs.counts.ids_given.Goals.{then-gives_id, else-gives_id}

pub loop-event-preserved : goal.loop-event-preserved
loop-event-preserved c =
    let f = next_given c.args.first in
    let front = take c.loop-event.event-index c.args.events.now in
    let inv = c.loop-event.invariant in
    let next : c.if-gives_id.next ≡ f (front ++ c.event-item.result ∷ []) =
    elim c.if-gives_id.branch [
      | then-gives_id w ↦ w.next-is ∙ w.id_behind-next.ensures.value ∙ ap next_id inv.next ∙ sym (given_next c.args.first front c.event-item.result (sym c.gives_id.ensures ∙ w.if-gives_id.true))
      | else-gives_id w ↦ w.next-is ∙ inv.next ∙ sym (given_same c.args.first front c.event-item.result (sym c.gives_id.ensures ∙ w.if-gives_id.false))
    ] in
    record {
      column = subst (IsColumn f (take (c.loop-event.event-index + 1) c.args.events.now)) (sym c.in_ok-push.ensures.items)
          (more f c.args.events.now c.loop-event.event-index c.event-item.result c.loop-event.column.items c.if-gives_id.next c.loop-event-test.true c.event-item.is next inv.column);
      next = at_more f c.args.events.now c.loop-event.event-index c.event-item.result c.loop-event.column.items c.if-gives_id.next c.loop-event-test.true c.event-item.is next;
      near = elim c.if-gives_id.branch [
        | then-gives_id w ↦ omega arith
        | else-gives_id w ↦ omega arith
      ];
    }
