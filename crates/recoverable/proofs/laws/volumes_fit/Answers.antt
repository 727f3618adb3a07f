use Rattle.recoverable.proofs.Whole.{volumes_fit}
use Rattle.recoverable.proofs.laws.volumes_fit.Goals as goal

pub returns : goal.returns
returns g c = volumes_fit g.L.LogDisk.images g.P.PageDisk.images
