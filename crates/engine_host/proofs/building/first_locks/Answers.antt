use Rattle.std.proofs.Common.{◌∙◌}
use Rattle.engine_host.proofs.Starting.{first_two}
use Rattle.engine_host.proofs.building.first_locks.Goals as goal

pub returns-clause-stand : goal.returns-clause-stand
returns-clause-stand g c =
    first_two c.args.cluster.now g.begins c.in-Ok-with_capacity.locks.items c.push_reserved.new.self.items c.push_reserved-2.new.self.items c.in-Ok-new.table c.in-Ok-new-2.multis
    c.in-Ok-with_capacity.ensures.items c.push_reserved.ensures.items c.push_reserved-2.ensures.items (c.in-Ok-new.ensures.ok ∙ c.in-Ok.ensures) (c.in-Ok-new-2.ensures.ok ∙ c.new-3.ensures)
