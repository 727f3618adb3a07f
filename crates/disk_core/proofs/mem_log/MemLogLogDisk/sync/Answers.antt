use Rattle.std.proofs.Common.{inl}
use Rattle.disk_core.specs.MemLog.{IsOutcome}
use Rattle.disk_core.specs.MemLogViews.{written, synced, log_moment}
use Rattle.disk_core.proofs.Clock.{log_elapses}
use Rattle.disk_core.proofs.MemLogCrash.{all_synced}
use Rattle.disk_core.proofs.mem_log.MemLogLogDisk.sync.Goals as goal

pub returns-clause-durable : goal.returns-clause-durable
returns-clause-durable c x left =
    let d = c.args.self.now in let n = c.settle.new.self in all_synced (written d) (synced n) (written n) x c.settle.ensures.synced c.settle.ensures.written left

pub returns-clause-crash : goal.returns-clause-crash
returns-clause-crash c x left =
    let d = c.args.self.now in let n = c.settle.new.self in inl (all_synced (written d) (synced n) (written n) x c.settle.ensures.synced c.settle.ensures.written left)

pub returns-clause-time : goal.returns-clause-time
returns-clause-time c =
    let d = c.args.self.now in let n = c.settle.new.self in
    log_elapses d.past.value c.by-past.result.value (log_moment d) (IsOutcome (synced n) (written n)) c.by-past.ensures
