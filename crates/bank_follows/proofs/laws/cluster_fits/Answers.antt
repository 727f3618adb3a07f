use Rattle.bank_follows.proofs.Ended.{cluster_fits}
use Rattle.bank_follows.proofs.laws.cluster_fits.Goals as goal

pub returns : goal.returns
returns g c = cluster_fits g.L.LogDisk g.P.PageDisk
