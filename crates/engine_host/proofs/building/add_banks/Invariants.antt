use Rattle.std.proofs.Common.{◌≡◌, ◌+◌, ◌++◌, ◌*◌, drop, false, length, vec_capacity}
use Rattle.engine_host.specs.Counted.{HaveCounted}
use Rattle.engine_host.specs.Opening.{AreNew}
use Rattle.engine_host.specs.Refused.{HaveDisks}
use Rattle.engine_host.specs.Stores.{Store, disks_in, volumes_in}
use Rattle.engine_host.proofs.building.add_banks.Given as goal

abbrev pub invariant-loop-bank : goal.invariant-loop-bank
invariant-loop-bank g l = record {
  rest : (k : Store) → (volumes_in k l.volumes).items ≡ drop l.bank (volumes_in k l.fn.volumes).items;
  count : length l.locks.items ≡ 2 + 4 * l.bank;
  disks : HaveDisks l.bank l.locks.items;
  room : vec_capacity l.locks ≡ vec_capacity l.fn.locks;
  stand : AreNew l.cluster g.begins 1 l.locks.items;
  counted : HaveCounted l.bank l.fn.volumes l.locks.items;
  capacity : (k : Store) → vec_capacity (volumes_in k l.volumes) ≡ vec_capacity (volumes_in k l.fn.volumes);
  kept : l.removes ≡ false → (k : Store) → disks_in k l.locks.items ++ (volumes_in k l.volumes).items ≡ disks_in k l.fn.locks.items ++ (volumes_in k l.fn.volumes).items;
}

abbrev pub ghost-add_bank : goal.ghost-add_bank
ghost-add_bank g a = g.begins
