use Rattle.bank_follows.proofs.Begins.{banks_open}
use Rattle.bank_follows.proofs.laws.banks_open.Goals as goal

pub returns : goal.returns
returns g c = banks_open g.P.PageDisk.images g.P.PageDisk.moment g.P.PageDisk.left_at
