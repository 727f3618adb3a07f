use Rattle.tx_events.proofs.IdOrder.{next_above}
use Rattle.std.proofs.Common.{max, refl, arith}
use Rattle.tx_events.specs.Ids.{next_id}
use Rattle.wal_core.proofs.Counts.{past_above}
use Rattle.wal_core.proofs.counters.after_tree.Goals as goal

pub returns-in_err-past-clause-none : goal.returns-in_err-past-clause-none
returns-in_err-past-clause-none c none =
    omega (arith, past_above (max c.args.c.now.next (next_id c.args.top)) c.args.subs.now, next_above c.args.top, c.in_err-past.ensures.none refl)
