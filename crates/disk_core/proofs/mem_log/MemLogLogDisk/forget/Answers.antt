use Rattle.std.proofs.Common.{refl, inr}
use Rattle.disk_core.specs.MemLog.{IsOutcome}
use Rattle.disk_core.specs.MemLogViews.{written, synced, log_moment}
use Rattle.disk_core.specs.Volume.{Volume}
use Rattle.disk_core.proofs.Clock.{log_elapses}
use Rattle.disk_core.proofs.MemLogCrash.{forgot_follows}
use Rattle.disk_core.proofs.mem_log.MemLogLogDisk.forget.Goals as goal

pub returns-clause-crash : goal.returns-clause-crash
returns-clause-crash c =
    forgot_follows c.args.upto (synced c.args.self.now) (written c.args.self.now) (record { start = c.max-self.result; bytes = c.args.self.now.bytes.items }) (record { start = inr c.max-self.ensures; bytes = refl })

pub returns-clause-time : goal.returns-clause-time
returns-clause-time c =
    let now : Volume = record { start = c.max-self.result; bytes = c.args.self.now.bytes.items } in
    log_elapses c.args.self.now.past.value c.by-past.result.value (log_moment c.args.self.now) (IsOutcome (synced c.args.self.now) now) c.by-past.ensures
