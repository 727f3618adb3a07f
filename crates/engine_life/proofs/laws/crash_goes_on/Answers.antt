use Rattle.engine_life.proofs.GoingOn.{crash_goes_on}
use Rattle.engine_life.proofs.laws.crash_goes_on.Goals as goal

pub returns : goal.returns
returns g c = crash_goes_on g.L.LogDisk g.P.PageDisk
