use Rattle.std.proofs.Common.{sym, subst, arith}
use Rattle.disk_core.specs.Volume.{Volume}
use Rattle.disk_core.specs.MemLog.{IsOutcome}
use Rattle.disk_core.specs.MemLogViews.{written, synced}
use Rattle.disk_core.proofs.MemLogCrash.{is_log_outcome, synced_only}
use Rattle.disk_core.proofs.mem_log.MemLog.crash.Goals as goal

pub returns-clause-crashed : goal.returns-clause-crashed
returns-clause-crashed c =
    let d = c.args.self.now in let n = c.fall_back.new.self in let e = c.fall_back.ensures in
    record {
      image = subst (λ (v : Volume). IsOutcome (synced d) (written d) v) (sym e.written) (is_log_outcome c.args.how (synced d) (written d));
      only = λ x left. synced_only (written n) x (subst (λ (v : Volume). IsOutcome v (written n) x) e.synced left);
      count = omega arith;
    }
