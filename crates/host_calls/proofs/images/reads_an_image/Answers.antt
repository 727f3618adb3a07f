use Rattle.wal_core.specs.LogViews.{log_disk}
use Rattle.host_calls.proofs.images.reads_an_image.Goals as goal

pub returns : goal.returns
returns g c = λ tells. g.met.L.LogDisk.reads_image (log_disk c.args._log.now) tells
