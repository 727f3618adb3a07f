use Rattle.std.proofs.Common.{◌++◌, take, length, refl}
use Rattle.disk_core.specs.MemLog.{IsOutcome}
use Rattle.disk_core.specs.MemLogViews.{written, log_moment}
use Rattle.disk_core.specs.Volume.{Volume}
use Rattle.disk_core.proofs.Clock.{log_elapses}
use Rattle.disk_core.proofs.MemLogCrash.{torn_either, wrote_follows_as}
use Rattle.disk_core.proofs.mem_log.MemLogLogDisk.write_at.Goals as goal

pub returns-clause-crash : goal.returns-clause-crash
returns-clause-crash c =
    let d = c.args.self.now in let new = c.write_in-outcome.new in
    let torn = torn_either c.write_in-outcome.result d.bytes.items new.bytes.items c.args.at c.args.from.now c.write_in-outcome.ensures.ok c.write_in-outcome.ensures.err in
    wrote_follows_as c.args.at (length c.args.from.now) d.synced_start (take d.low d.bytes.items ++ d.tail.items) (take new.low new.bytes.items ++ new.tail.items)
    (written d) (record { start = d.start; bytes = new.bytes.items }) c.write_in-outcome.ensures.synced (record { start = refl; torn = torn })

pub returns-clause-time : goal.returns-clause-time
returns-clause-time c =
    let d = c.args.self.now in let new = c.write_in-outcome.new in
    let synced : Volume = record { start = d.synced_start; bytes = take new.low new.bytes.items ++ new.tail.items } in
    log_elapses d.past.value c.by-past.result.value (log_moment d) (IsOutcome synced (record { start = d.start; bytes = new.bytes.items })) c.by-past.ensures
