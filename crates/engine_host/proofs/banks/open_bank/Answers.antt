use Rattle.std.proofs.Common.{ap, false, ◌∙◌, ◌≡◌}
use Rattle.slru_bank.specs.Calls.{pages_of, volume_of}
use Rattle.engine_host.proofs.Starting.{bytes_are, opened_durable}
use Rattle.engine_host.proofs.banks.open_bank.Goals as goal

-- the bank is the one whose pages were removed
pub returns-in-Ok-empty-clause-pages : goal.returns-in-Ok-empty-clause-pages
returns-in-Ok-empty-clause-pages g c told q small =
    bytes_are g.P.PageDisk c.args.disk c.args.removes (pages_of c.in-Ok.store) (pages_of c.empty.new.store) c.in-Ok.ensures.map (c.in-Ok-empty.ensures.left told) q small

pub returns-in-Ok-empty-clause-durable : goal.returns-in-Ok-empty-clause-durable
returns-in-Ok-empty-clause-durable g c told on =
    c.in-Ok-empty.ensures.durable told (λ (none : c.args.removes ≡ false). opened_durable g.P.PageDisk c.args.disk c.in-Ok.store c.in-Ok.ensures.disk c.in-Ok.ensures.map (on none))

pub returns-in-Ok-empty-clause-same : goal.returns-in-Ok-empty-clause-same
returns-in-Ok-empty-clause-same g c none = ap volume_of (c.empty.ensures.same none).0 ∙ c.in-Ok.ensures.disk
