use Rattle.std.proofs.Common.{refl}
use Rattle.record_rules.proofs.Kept.{broken_at}
use Rattle.record_rules.proofs.starts.counters_behind.Goals as goal

pub returns-in_err-counters-clause-none : goal.returns-in_err-counters-clause-none
returns-in_err-counters-clause-none c = λ n.
    broken_at c.args.base.now c.loop-rec.counters c.args.recs.now c.loop-rec.rec-index c.rec-item.result c.loop-rec.invariant c.loop-rec-test.true c.rec-item.is (c.in_err-counters.ensures.none refl)
