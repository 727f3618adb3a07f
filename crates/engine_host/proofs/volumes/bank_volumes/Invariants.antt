use Rattle.std.proofs.Common.{◌≡◌, ◌+◌, ◌≤◌, ◌++◌, length, take, vec_capacity, vec_len}
use Rattle.std.specs.Prelude.{reverse}
use Rattle.engine_host.specs.Stores.{Store, disks_in, volumes_in}
use Rattle.engine_host.proofs.volumes.bank_volumes.Given as goal

abbrev pub invariant-parts : goal.invariant-parts
invariant-parts g l = record {
  left : take l.first l.locks.items ≡ take l.first l.fn.locks.items;
  volumes : (k : Store) → disks_in k l.locks.items ++ reverse (volumes_in k l.volumes).items ≡ disks_in k l.fn.locks.items ++ (volumes_in k l.fn.volumes).items;
  room : (k : Store) → length (disks_in k l.locks.items) + length (volumes_in k l.volumes).items ≤ vec_capacity (volumes_in k l.volumes);
}

abbrev pub decreases-parts : goal.decreases-parts
decreases-parts g l = vec_len l.locks
