use Rattle.recoverable.proofs.Crashed.{crash_keeps_fit}
use Rattle.recoverable.proofs.laws.crash_keeps_fit.Goals as goal

pub returns : goal.returns
returns g c = crash_keeps_fit g.L.LogDisk g.P.PageDisk
