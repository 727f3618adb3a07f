-- Why a cluster wasn't recovered, by its volumes before and after.
use Rattle.std.specs.Prelude.{◌≡◌, ℕ, IsTrue, Option, None, Some, Ok, Err, length}
use Rattle.std.specs.Global.{Vec}
use Rattle.disk_core.specs.Faults.{HasRisen}
use Rattle.disk_core.specs.Volume.{Volume}
use Rattle.disk_core.specs.declared.log_disk.LogDisk as logs
use Rattle.disk_core.specs.declared.page_disk.PageDisk as disks
use Rattle.tx_events.specs.declared.record.Counters.{Counters}
use Rattle.tx_events.specs.declared.record.Rec.TheVariants as records
use Rattle.tx_events.specs.declared.refusal.Lock.TheVariants as locks
use Rattle.wal_core.specs.Log.{IsFull}
use Rattle.wal_core.specs.Opening.{History, next_number, opened}
use Rattle.wal_core.specs.LogViews.{log_disk, log_end}
use Rattle.wal_core.specs.declared.refusal.LogRefusal.{LogRefusal}
use Rattle.wal_core.specs.declared.refusal.LogRefusal.TheVariants as log_refusals
use Rattle.wal_core.specs.declared.wal_log.WalLog.{WalLog}
use Rattle.wal_records.specs.Spelling.{rec_bytes}
use Rattle.recoverable.specs.Clusters.{HasFailedAt}
use Rattle.disk_core.specs.declared.media.Volumes.{Volumes}
use Rattle.replay_core.specs.declared.refusal.RecoverRefusal.{RecoverRefusal}
use Rattle.replay_core.specs.declared.refusal.RecoverRefusal.TheVariants as refusals

-- the volume opens to this history, or to none
pub record OpensTo (history : Option History) (v : Volume) : Type 0 where
  pub gate : ℕ
  pub opens : opened v ≡ Ok (record { history = history; gate = gate })

abbrev pub IsNewLog : Volume → Type 0
IsNewLog v = OpensTo None v

-- a checkpoint of the log's counters has no room behind its gate
pub record HasNoRoom (v : Volume) : Type 0 where
  pub history : History
  pub gate : ℕ
  pub opens : opened v ≡ Ok (record { history = Some history; gate = gate })
  pub full : IsFull gate 0 (length (rec_bytes (records.Checkpoint (next_number history) history.counters)))

-- what a refusal of a log that isn't down means
abbrev pub refusal_by : LogRefusal → RecoverRefusal
refusal_by (log_refusals.Damaged at) = refusals.Damaged at
refusal_by log_refusals.LogFault = refusals.LogFault
refusal_by (log_refusals.LogDown at) = refusals.LogFault
refusal_by log_refusals.Full = refusals.Full
refusal_by log_refusals.Memory = refusals.Memory

module _ {D : Type 0} (g : logs.Ghosts D) where
  -- why the log of this volume wasn't opened; the volume came back so
  abbrev pub IsOpenRefusal : D → D → RecoverRefusal → Type 0
  IsOpenRefusal old new (refusals.Damaged at) = IsTrue g.tells → opened (g.reads old) ≡ Err at
  IsOpenRefusal old new refusals.LogFault = HasRisen (g.faults old) (g.faults new)
  IsOpenRefusal old new refusals.Memory = Unit {0}
  IsOpenRefusal old new refusal = ⊥

module _ {D : Type 0} {g : logs.Ghosts D} where
  -- why this log wasn't settled on a checkpoint with this number
  abbrev pub IsSettleRefusal : ℕ → Counters → WalLog D g → WalLog D g → RecoverRefusal → Type 0
  IsSettleRefusal number base old new refusals.LogFault = HasRisen (g.faults (log_disk old)) (g.faults (log_disk new))
  IsSettleRefusal number base old new refusals.Full = IsFull (log_end old) 0 (length (rec_bytes (records.Checkpoint number base)))
  IsSettleRefusal number base old new refusals.Memory = Unit {0}
  IsSettleRefusal number base old new refusal = ⊥

-- a log's volume with those of the banks
abbrev pub volumes_of : {L P : Type 0} → L → Vec P → Vec P → Vec P → Vec P → Volumes L P
volumes_of log xact subtrans offsets members = record { log = log; xact = xact; subtrans = subtrans; offsets = offsets; members = members }

module _ {L P : Type 0} (l : logs.Ghosts L) (p : disks.Ghosts P) where
  -- why a cluster with these volumes wasn't recovered, of which the log was opened; they came back so
  abbrev pub IsRefusal : Volumes L P → Volumes L P → RecoverRefusal → Type 0
  IsRefusal old new (refusals.Damaged at) = ⊥
  IsRefusal old new refusals.LogFault = HasRisen (l.faults old.log) (l.faults new.log)
  IsRefusal old new (refusals.DiskFault (locks.Xact bank)) = HasFailedAt p.faults bank old.xact.items new.xact.items
  IsRefusal old new (refusals.DiskFault (locks.Subtrans bank)) = HasFailedAt p.faults bank old.subtrans.items new.subtrans.items
  IsRefusal old new (refusals.DiskFault (locks.Offsets bank)) = HasFailedAt p.faults bank old.offsets.items new.offsets.items
  IsRefusal old new (refusals.DiskFault (locks.Members bank)) = HasFailedAt p.faults bank old.members.items new.members.items
  IsRefusal old new (refusals.DiskFault lock) = ⊥
  IsRefusal old new refusals.Full = IsTrue l.tells → HasNoRoom (l.reads old.log)
  IsRefusal old new refusals.Memory = Unit {0}
