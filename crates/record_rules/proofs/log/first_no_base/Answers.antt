use Rattle.std.proofs.Common.{◌≡◌, ◌+◌, take, ◌∙◌, arith}
use Rattle.tx_events.specs.After.{after_records}
use Rattle.record_rules.proofs.Kept.{bases_further, record_further}
use Rattle.record_rules.proofs.log.first_no_base.Goals as goal

pub loop-place-preserved : goal.loop-place-preserved
loop-place-preserved c =
    let behind : c.in-Some.behind ≡ after_records c.args.base.now (take (c.loop-place.place + 1) c.args.recs.now) =
    c.in-Some.ensures.some.0 ∙ record_further c.args.base.now c.loop-place.counters c.args.recs.now c.loop-place.place c.index-recs-place.result c.loop-place.invariant.sofar (omega arith) c.index-recs-place.is in
    record {
      sofar = behind;
      bases = bases_further c.args.base.now c.in-Some.behind c.args.recs.now c.loop-place.place c.loop-place.invariant.bases (omega arith) behind c.in-Some.ensures.some.1;
    }
