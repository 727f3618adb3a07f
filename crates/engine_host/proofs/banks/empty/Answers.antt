use Rattle.std.proofs.Common.{ap, cond, refl, sym, ◌∙◌}
use Rattle.disk_core.specs.Pages.{zero_page}
use Rattle.slru_bank.specs.Calls.{pages_of}
use Rattle.engine_host.proofs.banks.empty.Goals as goal

pub returns-then-not-removes-clause-left : goal.returns-then-not-removes-clause-left
returns-then-not-removes-clause-left g c told q small = ap (λ r. cond r zero_page (pages_of c.args.store.now q)) (sym c.if-not-removes.true)

pub returns-then-not-removes-clause-durable : goal.returns-then-not-removes-clause-durable
returns-then-not-removes-clause-durable g c told on = on c.if-not-removes.true

pub returns-clause-left : goal.returns-clause-left
returns-clause-left g c told q small =
    c.flush_all.ensures.same told q
    ∙ ((c.in_ok-clear_all.ensures.bank.drops told).zeros q small refl ∙ ap (λ r. cond r zero_page (pages_of c.args.store.now q)) (sym c.if-not-removes.false))

pub returns-clause-last : goal.returns-clause-last
returns-clause-last g c = c.flush_all.ensures.bank.last ∙ c.clear_all.ensures.bank.sweeps.last
