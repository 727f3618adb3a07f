use Rattle.bank_follows.proofs.Fitting.{parts_fit}
use Rattle.bank_follows.proofs.laws.parts_fit.Goals as goal

pub returns : goal.returns
returns g c = parts_fit g.L.LogDisk g.P.PageDisk (λ told d x now. g.met.P.PageDisk.only_now d x told now)
