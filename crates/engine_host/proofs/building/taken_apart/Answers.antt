use Rattle.std.proofs.Common.{ap, sym, ◌++◌, ◌∙◌}
use Rattle.engine_host.specs.Stores.{disks_in, volumes_in}
use Rattle.engine_host.proofs.building.taken_apart.Goals as goal

pub returns-clause-volumes : goal.returns-clause-volumes
returns-clause-volumes g c k =
    ap (λ banks. (volumes_in k banks).items) c.with_log.ensures.volumes
    ∙ (ap (λ l. disks_in k l ++ (volumes_in k c.bank_volumes-volumes.result).items) (sym c.bank_volumes-volumes.ensures.left) ∙ c.bank_volumes-volumes.ensures.volumes k)
