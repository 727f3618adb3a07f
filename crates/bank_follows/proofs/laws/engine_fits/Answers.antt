use Rattle.bank_follows.proofs.Holding.{engine_fits}
use Rattle.bank_follows.proofs.laws.engine_fits.Goals as goal

pub returns : goal.returns
returns g c = engine_fits g.L.LogDisk.images g.P.PageDisk.images g.P.PageDisk.moment g.P.PageDisk.left_at
