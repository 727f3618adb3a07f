use Rattle.std.proofs.Common.{Option, Ok, sym, ◌∙◌, subst, arith}
use Rattle.wal_core.proofs.News.{opens_short, last_short}
use Rattle.wal_core.specs.LastBatch.{Batch}
use Rattle.wal_core.specs.Checkpoint.{IsCheckpointIn}
use Rattle.wal_core.proofs.Starts.{once_closed_as, short_once_closed}
use Rattle.wal_core.proofs.log_contents.read_extent.Goals as goal

pub returns-then-extent-le1-clause-read : goal.returns-then-extent-le1-clause-read
returns-then-extent-le1-clause-read g c told =
    let v = g.D.LogDisk.reads c.args.disk.now in
    opens_short v (omega (arith, c.requires.start told)) (omega (arith, c.requires.length told))
    ∙ (λ i. Ok (record { history = sym c.no_records.ensures.history i; gate = sym c.no_records.ensures.gate i }))

pub returns-then-extent-le1-clause-last : goal.returns-then-extent-le1-clause-last
returns-then-extent-le1-clause-last g c told =
    let v = g.D.LogDisk.reads c.args.disk.now in
    subst (λ (o : Option Batch). IsCheckpointIn o c.no_records.result.counters c.no_records.result.checkpoint) (sym (last_short v (omega (arith, c.requires.start told)) (omega (arith, c.requires.length told)))) c.no_records.ensures.checkpoint

pub returns-then-extent-le1-clause-once_closed : goal.returns-then-extent-le1-clause-once_closed
returns-then-extent-le1-clause-once_closed g c told =
    let v = g.D.LogDisk.reads c.args.disk.now in
    once_closed_as _ _ _ v c.no_records.ensures.gate c.no_records.ensures.none.0 c.no_records.ensures.none.1
    (short_once_closed v (omega (arith, c.requires.start told)) (omega (arith, c.requires.length told)))
