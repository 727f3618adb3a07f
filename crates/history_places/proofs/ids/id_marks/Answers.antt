use Rattle.std.proofs.Common.{subst, sym, ◌≡◌, arith, ℕ, List, Option, set, take, ◌+◌}
use Rattle.tx_events.specs.IdLists.{Ascending}
use Rattle.history_places.specs.declared.mark.IdMark.{IdMark}
use Rattle.history_places.specs.IdMarks.{closed_above, mark_ids}
use Rattle.history_places.proofs.Closings.{Closing, closing_done, closing_more, closing_none, sofar_ascends}
use Rattle.history_places.proofs.ids.id_marks.Goals as goal

pub loop-at-init : goal.loop-at-init
loop-at-init c = record { closing = closing_none c.args.replay.now.events c.in_ok-marks.marks.items }

pub closed_above-above-requires : goal.closed_above-above-requires
closed_above-above-requires c =
    subst (λ (t : List IdMark). Ascending (mark_ids (take c.loop-at.at t))) (sym c.as_slice.ensures.value)
    (sofar_ascends c.args.replay.now.base c.args.replay.now.events c.in_ok-marks.marks.items (take c.loop-at.at c.loop-at.marks.items) c.loop-at.at c.events-legal.ensures.legal c.in_ok-marks.ensures c.loop-at.invariant.closing.so_far)

pub loop-at-preserved : goal.loop-at-preserved
loop-at-preserved c =
    let size = c.loop-at.invariant.closing.size in
    record {
      closing = subst (λ (o : Option ℕ). Closing c.args.replay.now.events c.in_ok-marks.marks.items (set c.loop-at.marks.items c.loop-at.at (record c.index-mark.result.now { closed = o })) (c.loop-at.at + 1)) (sym c.earlier.ensures)
          (closing_more c.args.replay.now.base c.args.replay.now.events c.in_ok-marks.marks.items c.loop-at.marks.items c.loop-at.at c.index-mark.result.now c.closed_above-above.result c.events-legal.ensures.legal c.in_ok-marks.ensures c.loop-at.invariant.closing
          (let room = c.in_ok-marks.marks.ok.0 in omega (arith, room, size)) c.index-mark.ensures
          (subst (λ (t : List IdMark). c.closed_above-above.result ≡ closed_above (take c.loop-at.at t) c.index-mark.result.now.parent) c.as_slice.ensures.value c.closed_above-above.ensures));
    }

pub returns : goal.returns
returns c =
    let size = c.loop-at.invariant.closing.size in
    let room = c.in_ok-marks.marks.ok.0 in
    closing_done c.args.replay.now.base c.args.replay.now.events c.in_ok-marks.marks.items c.loop-at.marks.items c.loop-at.at c.events-legal.ensures.legal c.in_ok-marks.ensures c.loop-at.invariant.closing (omega (arith, room, size))
