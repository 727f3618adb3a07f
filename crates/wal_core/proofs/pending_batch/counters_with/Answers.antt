use Rattle.wal_core.proofs.NextRecs.{counted}
use Rattle.wal_core.proofs.pending_batch.counters_with.Goals as goal

pub returns : goal.returns
returns c = counted c.args.counters c.args.rec.now c.counters_then.result c.counters_then.ensures.some c.counters_then.ensures.none c.requires.first c.requires.base
