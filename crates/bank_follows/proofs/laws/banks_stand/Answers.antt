use Rattle.bank_follows.proofs.Standing.{banks_stand}
use Rattle.bank_follows.proofs.laws.banks_stand.Goals as goal

pub returns : goal.returns
returns g c = banks_stand g.P.PageDisk.images g.P.PageDisk.moment g.P.PageDisk.left_at
