-- How often the volumes of a new engine had failed before: its parts have counted no less.
use Rattle.std.specs.Prelude.{◌≡◌, ℕ, ◌+◌, ◌*◌, ◌<◌, ◌≤◌, ◌++◌, List, [], ◌∷◌, Some, get_or, map, slice_get}
use Rattle.disk_core.specs.declared.log_disk.LogDisk as logs
use Rattle.disk_core.specs.declared.page_disk.PageDisk as disks
use Rattle.tx_core.specs.Locks.{log_lock}
use Rattle.engine_parts.specs.declared.part.Part.{Part}
use Rattle.engine_host.specs.Opening.{faults_behind}
use Rattle.engine_host.specs.Stores.{Store, lock_in, of_members, of_offsets, of_subtrans, of_xact, place_of, volumes_in}
use Rattle.engine_host.specs.declared.cluster.BankVolumes.{BankVolumes}

module _ {L P : Type 0} (l : logs.Ghosts L) (p : disks.Ghosts P) where
  -- These counts, by the numbers of the locks, are not below those of these volumes: the log's, and those of the banks.
  pub record AreCounted (disk : L) (volumes : BankVolumes P) (faults : List ℕ) : Type 0 where
    pub log : l.faults disk ≤ get_or faults log_lock 0
    pub banks : (k : Store) (bank : ℕ) (v : P) → slice_get (volumes_in k volumes).items bank ≡ Some v
        → p.faults v ≤ get_or faults (lock_in k bank) 0

module _ {L P : Type 0} {l : logs.Ghosts L} {p : disks.Ghosts P} where
  -- of the first so many banks, by the parts behind the locks from 1 on
  abbrev pub HaveCounted : ℕ → BankVolumes P → List (Part L P l p) → Type 0
  HaveCounted banks volumes locks =
      (k : Store) (bank : ℕ) (v : P) → bank < banks → slice_get (volumes_in k volumes).items bank ≡ Some v
      → p.faults v ≤ get_or (map faults_behind locks) (2 + 4 * bank + place_of k) 0

  -- with the parts of one bank more, over the first of these volumes
  pub record CountsBank (volumes : BankVolumes P) (old new : List (Part L P l p)) : Type 0 where
    pub counts : Store → ℕ
    pub grown : map faults_behind new
        ≡ map faults_behind old ++ counts of_xact ∷ counts of_subtrans ∷ counts of_offsets ∷ counts of_members ∷ []
    pub each : (k : Store) (v : P) → slice_get (volumes_in k volumes).items 0 ≡ Some v → p.faults v ≤ counts k
