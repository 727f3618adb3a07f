use Rattle.std.proofs.Common.{arith, ◌∙◌}
use Rattle.script_gen.proofs.EventCounts.{counts_fit, counts_next}
use Rattle.script_gen.proofs.summary.counts_of.Goals as goal

pub counted-counts-requires : goal.counted-counts-requires
counted-counts-requires c = record {
  few = counts_fit c.args.history.now c.loop-event.event-index c.loop-event.counts c.loop-event-test.true (omega arith) c.loop-event.invariant;
}

pub loop-event-preserved : goal.loop-event-preserved
loop-event-preserved c =
    c.counted-counts.ensures
    ∙ counts_next c.args.history.now c.loop-event.event-index c.event-item.result c.loop-event.counts c.loop-event-test.true c.event-item.is c.loop-event.invariant
