use Rattle.disk_core.proofs.MemPagesCrash.{crash_is_so}
use Rattle.disk_core.proofs.mem_pages.MemPages.crash.Goals as goal

pub returns-clause-crashed : goal.returns-clause-crashed
returns-clause-crashed c =
    let d = c.args.self.now in let n = c.fall_back.new.self in let e = c.fall_back.ensures in
    crash_is_so c.fall_back.result c.args.how d n e.now e.synced e.cause.0
