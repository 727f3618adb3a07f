-- The four stores of an engine: what each has among its volumes and its parts.
use Rattle.std.specs.Prelude.{◌≡◌, ℕ, List, None, Option, Some, length}
use Rattle.std.specs.Global.{Vec}
use Rattle.std.specs.List.{filter_map}
use Rattle.disk_core.specs.declared.log_disk.LogDisk as logs
use Rattle.disk_core.specs.declared.media.Volumes.{Volumes}
use Rattle.disk_core.specs.declared.page_disk.PageDisk as disks
use Rattle.slru_bank.specs.Calls.{volume_of}
use Rattle.tx_core.specs.Locks.{members_lock, offsets_lock, subtrans_lock, xact_lock}
use Rattle.tx_events.specs.declared.refusal.Lock.{Lock}
use Rattle.tx_events.specs.declared.refusal.Lock.TheVariants as locks
use Rattle.engine_parts.specs.declared.part.Part.{Part}
use Rattle.engine_parts.specs.declared.part.Part.TheVariants as parts
use Rattle.engine_host.specs.declared.cluster.BankVolumes.{BankVolumes}

-- pg_xact, pg_subtrans, the offsets of multixacts and their members
pub data Store : Type 0 where
  of_xact : Store
  of_subtrans : Store
  of_offsets : Store
  of_members : Store

-- its place among the four, in the order of the locks
abbrev pub place_of : Store → ℕ
place_of of_xact = 0
place_of of_subtrans = 1
place_of of_offsets = 2
place_of of_members = 3

-- the lock of one of its banks, by its number
abbrev pub lock_in : Store → ℕ → ℕ
lock_in of_xact bank = xact_lock bank
lock_in of_subtrans bank = subtrans_lock bank
lock_in of_offsets bank = offsets_lock bank
lock_in of_members bank = members_lock bank

-- and as a refusal names it
abbrev pub lock_named : Store → ℕ → Lock
lock_named of_xact bank = locks.Xact bank
lock_named of_subtrans bank = locks.Subtrans bank
lock_named of_offsets bank = locks.Offsets bank
lock_named of_members bank = locks.Members bank

module _ {P : Type 0} where
  abbrev pub volumes_in : Store → BankVolumes P → Vec P
  volumes_in of_xact volumes = volumes.xact
  volumes_in of_subtrans volumes = volumes.subtrans
  volumes_in of_offsets volumes = volumes.offsets
  volumes_in of_members volumes = volumes.members

  -- there are so many of each
  abbrev pub HaveEach : ℕ → BankVolumes P → Type 0
  HaveEach banks volumes = (k : Store) → length (volumes_in k volumes).items ≡ banks

-- those of the banks among all
abbrev pub banks_of : {L P : Type 0} → Volumes L P → BankVolumes P
banks_of v = record { xact = v.xact; subtrans = v.subtrans; offsets = v.offsets; members = v.members }

module _ {L P : Type 0} {l : logs.Ghosts L} {p : disks.Ghosts P} where
  -- the volume of a bank of the store
  abbrev pub disk_in : Store → Part L P l p → Option P
  disk_in of_xact (parts.Xact store) = Some (volume_of store.value)
  disk_in of_xact part = None
  disk_in of_subtrans (parts.Subtrans store) = Some (volume_of store.value)
  disk_in of_subtrans part = None
  disk_in of_offsets (parts.Offsets store) = Some (volume_of store.value)
  disk_in of_offsets part = None
  disk_in of_members (parts.Members store) = Some (volume_of store.value)
  disk_in of_members part = None

  -- those of its banks, in their order
  abbrev pub disks_in : Store → List (Part L P l p) → List P
  disks_in k locks = filter_map (disk_in k) locks
