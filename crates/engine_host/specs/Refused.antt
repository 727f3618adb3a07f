-- Why no engine was opened, by its volumes before and after.
use Rattle.std.specs.Prelude.{◌≡◌, ◌⊎◌, ◌∷◌, ◌≤◌, ℕ, Bool, false, List, length, Some, remove, slice_get}
use Rattle.disk_core.specs.declared.log_disk.LogDisk as logs
use Rattle.disk_core.specs.declared.media.Volumes.{Volumes}
use Rattle.disk_core.specs.declared.page_disk.PageDisk as disks
use Rattle.disk_core.specs.Faults.{HasRisen}
use Rattle.tx_events.specs.declared.record.Rec.TheVariants as records
use Rattle.tx_events.specs.declared.refusal.Lock.{Lock}
use Rattle.tx_events.specs.declared.refusal.Lock.TheVariants as locks
use Rattle.store_pages.specs.declared.page_rule.PageRule as rules
use Rattle.slru_bank.specs.Calls.{faults_of, volume_of}
use Rattle.slru_bank.specs.declared.bank.SlruBank.{SlruBank}
use Rattle.wal_core.specs.declared.refusal.LogRefusal.{LogRefusal}
use Rattle.wal_core.specs.declared.refusal.LogRefusal.TheVariants as log_refusals
use Rattle.wal_core.specs.declared.wal_log.WalLog.{WalLog}
use Rattle.wal_core.specs.Log.{IsFull}
use Rattle.wal_core.specs.LogViews.{log_disk, log_end}
use Rattle.wal_records.specs.Spelling.{rec_bytes}
use Rattle.tx_core.specs.declared.entry.Entry.{Entry}
use Rattle.tx_core.specs.declared.entry.Start.{Start}
use Rattle.recoverable.specs.Clusters.{HasFailedAt}
use Rattle.engine_parts.specs.Parts.{PartStands}
use Rattle.engine_parts.specs.declared.part.Part.{Part}
use Rattle.engine_host.specs.Stores.{Store, disks_in, lock_named}
use Rattle.engine_host.specs.declared.cluster.BankVolumes.{BankVolumes}
use Rattle.engine_host.specs.declared.cluster.Cluster.{Cluster}
use Rattle.engine_host.specs.declared.refusal.OpenRefusal.{OpenRefusal}
use Rattle.engine_host.specs.declared.refusal.OpenRefusal.TheVariants as refusals

-- what a refusal of a log that isn't down means
abbrev pub refusal_by : LogRefusal → OpenRefusal
refusal_by (log_refusals.Damaged at) = refusals.LogFault
refusal_by log_refusals.LogFault = refusals.LogFault
refusal_by (log_refusals.LogDown at) = refusals.LogFault
refusal_by log_refusals.Full = refusals.Full
refusal_by log_refusals.Memory = refusals.Memory

-- the first checkpoint doesn't fit behind this gate
abbrev pub HasNoRoom : Cluster → ℕ → Type 0
HasNoRoom c gate = IsFull gate 0 (length (rec_bytes (records.Checkpoint 0 c.base)))

module _ {D : Type 0} {g : logs.Ghosts D} where
  -- why the first checkpoint of a log isn't on disk
  abbrev pub IsBeginRefusal : Cluster → WalLog D g → WalLog D g → OpenRefusal → Type 0
  IsBeginRefusal c old new refusals.LogFault = HasRisen (g.faults (log_disk old)) (g.faults (log_disk new))
  IsBeginRefusal c old new refusals.Full = HasNoRoom c (log_end old)
  IsBeginRefusal c old new refusals.Memory = Unit {0}
  IsBeginRefusal c old new refusal = ⊥

module _ {P : Type 0} (p : disks.Ghosts P) where
  -- Why no bank with this lock was opened over the first of these volumes, which came back so.
  abbrev pub IsFailed : Lock → List P → List P → OpenRefusal → Type 0
  IsFailed lock old new refusal = (refusal ≡ refusals.Memory) ⊎ ((refusal ≡ refusals.DiskFault lock) × HasFailedAt p.faults 0 old new)

  -- why the banks of this number weren't: one of one of the stores
  abbrev pub IsBankRefusal : ℕ → (Store → List P) → (Store → List P) → OpenRefusal → Type 0
  IsBankRefusal bank old new refusal = (k : Store) × IsFailed (lock_named k bank) (old k) (new k) refusal

module _ {P O : Type 0} {p : disks.Ghosts P} {r : rules.Ghosts O} where
  -- A bank was opened over the first of these volumes. Where no pages were removed the volume is as it was.
  pub record OpensFirst (removed : Bool) (old new : List P) (store : SlruBank P O p r) : Type 0 where
    pub rest : new ≡ remove old 0
    pub count : (v : P) → slice_get old 0 ≡ Some v → p.faults v ≤ faults_of store
    pub same : removed ≡ false → old ≡ volume_of store ∷ new

-- none was, and as many are there again
pub record IsBack {P : Type 0} (removed : Bool) (old new : List P) : Type 0 where
  pub count : length new ≡ length old
  pub same : removed ≡ false → new ≡ old

module _ {L P : Type 0} {l : logs.Ghosts L} {p : disks.Ghosts P} where
  -- each part lies behind its lock, where it stands for some list
  abbrev pub AreInPlace : List (Part L P l p) → Type 0
  AreInPlace locks = (lock : ℕ) (part : Part L P l p) → slice_get locks lock ≡ Some part
      → (start : Start) × (es : List Entry) × PartStands start lock part es

  -- there are so many banks of each store
  abbrev pub HaveDisks : ℕ → List (Part L P l p) → Type 0
  HaveDisks banks locks = (k : Store) → length (disks_in k locks) ≡ banks

module _ {L P : Type 0} {l : logs.Ghosts L} (p : disks.Ghosts P) where
  -- Why no new engine was opened over this log and these volumes of banks, which came back so: the log has no room, a
  -- volume failed, or memory was wanting.
  abbrev pub IsRefusal : Cluster → WalLog L l → BankVolumes P → Volumes L P → OpenRefusal → Type 0
  IsRefusal c log old new refusals.LogFault = HasRisen (l.faults (log_disk log)) (l.faults new.log)
  IsRefusal c log old new (refusals.DiskFault (locks.Xact bank)) =
      HasFailedAt p.faults bank old.xact.items new.xact.items
  IsRefusal c log old new (refusals.DiskFault (locks.Subtrans bank)) =
      HasFailedAt p.faults bank old.subtrans.items new.subtrans.items
  IsRefusal c log old new (refusals.DiskFault (locks.Offsets bank)) =
      HasFailedAt p.faults bank old.offsets.items new.offsets.items
  IsRefusal c log old new (refusals.DiskFault (locks.Members bank)) =
      HasFailedAt p.faults bank old.members.items new.members.items
  IsRefusal c log old new (refusals.DiskFault lock) = ⊥
  IsRefusal c log old new refusals.Full = HasNoRoom c (log_end log)
  IsRefusal c log old new refusals.Memory = Unit {0}
