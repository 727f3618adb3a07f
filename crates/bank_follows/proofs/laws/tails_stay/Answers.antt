use Rattle.bank_follows.proofs.Tails.{keeps_tails}
use Rattle.bank_follows.proofs.laws.tails_stay.Goals as goal

pub returns : goal.returns
returns g c = keeps_tails g.P.PageDisk.images g.P.PageDisk.moment g.P.PageDisk.left_at
