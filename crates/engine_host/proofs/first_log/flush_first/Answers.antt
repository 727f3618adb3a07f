use Rattle.std.proofs.Common.{sym, ◌∷◌, [], ◌∙◌}
use Rattle.tx_events.specs.declared.record.Rec.TheVariants as records
use Rattle.wal_core.specs.LogViews.{log_checkpoint, log_counters, log_disk, log_down, log_end, log_first, log_flushed, log_next, log_recs}
use Rattle.engine_parts.specs.LogTail.{log_tail}
use Rattle.engine_parts.proofs.Tails.{none_pending}
use Rattle.engine_host.specs.Opening.{nothing_before}
use Rattle.engine_host.proofs.FirstEnds.{checkpoint_end}
use Rattle.engine_host.proofs.Starting.{first_gives, log_begins}
use Rattle.engine_host.proofs.first_log.flush_first.Goals as goal

pub returns-in-Ok-clause-begun : goal.returns-in-Ok-clause-begun
returns-in-Ok-clause-begun g c counts reached =
    let log = c.flush.new.self in
    let disk = g.L.LogDisk in
    let new = c.in-Ok.ensures in
    log_begins c.args._cluster.now nothing_before disk.tells (disk.faults (log_disk log)) (disk.images (log_disk log)) (log_recs log) (log_next log) (log_first log) (log_flushed log) (log_counters log) (log_down log) (log_checkpoint log) (log_tail log) counts
    (new.recs ∙ c.requires.first.recs) (new.next ∙ c.requires.first.next) (new.ok ∙ c.requires.first.next) (new.counters ∙ c.requires.first.counters) (new.stays (λ e. absurd cc) ∙ c.requires.first.down) (new.first ∙ c.requires.first.first) reached (none_pending log (new.ok ∙ sym new.next))
    (λ told. (0, records.Checkpoint 0 c.args._cluster.now.base ∷ [], new.keeps told 0 (records.Checkpoint 0 c.args._cluster.now.base ∷ []) (c.requires.first.keeps told), λ t. first_gives c.args._cluster.now))

pub returns-in-Ok-clause-end : goal.returns-in-Ok-clause-end
returns-in-Ok-clause-end g c = checkpoint_end c.args.log.now (log_end c.flush.new.self) 0 c.args._cluster.now.base c.requires.pending c.in-Ok.ensures.end
