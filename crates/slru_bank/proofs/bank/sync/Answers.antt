use Rattle.slru_bank.specs.Crash.{mixture_call, mixture_same}
use Rattle.slru_bank.proofs.bank.sync.Goals as goal

pub returns-clause-crash : goal.returns-clause-crash
returns-clause-crash g c told m new =
    let d = g.P.PageDisk in
    mixture_call d.images d.moment d.left_at c.args.disk.now c.sync.new.self m new (c.sync.ensures.time told) (λ x left. g.met.P.PageDisk.only_now c.args.disk.now x told left)
    (λ x left. (x, c.sync.ensures.crash told x left, mixture_same m new x))
