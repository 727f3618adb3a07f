use Rattle.engine_parts.proofs.Beginning.{crash_begins, log_begins}
use Rattle.engine_parts.proofs.laws.log_begins.Goals as goal

pub returns-clause-stands : goal.returns-clause-stands
returns-clause-stands g c = log_begins g.L.LogDisk

pub returns-clause-crashed : goal.returns-clause-crashed
returns-clause-crashed g c = crash_begins g.L.LogDisk
