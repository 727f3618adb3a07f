-- Why no life was opened over a media.
use Rattle.std.specs.Prelude.{◌≡◌, ◌⊎◌, ℕ, IsTrue, Err, None, Ok}
use Rattle.disk_core.specs.declared.log_disk.LogDisk as logs
use Rattle.disk_core.specs.declared.page_disk.PageDisk as disks
use Rattle.disk_core.specs.declared.media.Volumes.{Volumes}
use Rattle.disk_core.specs.Faults.{HasRisen}
use Rattle.disk_core.specs.Images.{Only}
use Rattle.wal_core.specs.Opening.{opened}
use Rattle.engine_host.specs.declared.cluster.Cluster.{Cluster}
use Rattle.engine_host.specs.declared.refusal.OpenRefusal.{OpenRefusal}
use Rattle.engine_host.specs.declared.refusal.OpenRefusal.TheVariants as refusals
use Rattle.recoverable.specs.Clusters.{HasFailedAt}
use Rattle.engine_host.specs.Refused.{HasNoRoom}
use Rattle.replay_core.specs.Refused as recovery
use Rattle.replay_core.specs.declared.refusal.RecoverRefusal.{RecoverRefusal}
use Rattle.replay_core.specs.declared.refusal.RecoverRefusal.TheVariants as recoveries
use Rattle.engine_life.specs.declared.refusal.NoLife.{NoLife}
use Rattle.engine_life.specs.declared.refusal.NoLife.TheVariants as no_lives

-- what a refusal of the engine means
abbrev pub refusal_by : OpenRefusal → NoLife
refusal_by refusals.LogFault = no_lives.Device
refusal_by (refusals.DiskFault lock) = no_lives.Device
refusal_by refusals.Full = no_lives.Full
refusal_by refusals.Memory = no_lives.Memory

-- and one to recover
abbrev pub unrecovered_by : RecoverRefusal → NoLife
unrecovered_by (recoveries.Damaged at) = no_lives.Damaged at
unrecovered_by recoveries.LogFault = no_lives.Device
unrecovered_by (recoveries.DiskFault lock) = no_lives.Device
unrecovered_by recoveries.Full = no_lives.Full
unrecovered_by recoveries.Memory = no_lives.Memory

-- it comes only of volumes that were mounted
abbrev pub IsOfVolumes : NoLife → Type 0
IsOfVolumes (no_lives.Damaged at) = Unit {0}
IsOfVolumes no_lives.Full = Unit {0}
IsOfVolumes refusal = ⊥

module _ {L P : Type 0} (l : logs.Ghosts L) (p : disks.Ghosts P) where
  -- the log's volume failed, or that of a bank
  abbrev pub HasVolumeFailed : Volumes L P → Volumes L P → Type 0
  HasVolumeFailed old new =
      HasRisen (l.faults old.log) (l.faults new.log)
      ⊎ (((bank : ℕ) × HasFailedAt p.faults bank old.xact.items new.xact.items)
      ⊎ (((bank : ℕ) × HasFailedAt p.faults bank old.subtrans.items new.subtrans.items)
      ⊎ (((bank : ℕ) × HasFailedAt p.faults bank old.offsets.items new.offsets.items)
      ⊎ ((bank : ℕ) × HasFailedAt p.faults bank old.members.items new.members.items))))

  -- a volume that tells opens to no record, with this next gate
  abbrev pub OpensEmpty : L → ℕ → Type 0
  OpensEmpty log gate = IsTrue l.tells → opened (l.reads log) ≡ Ok (record { history = None; gate = gate })

  -- Why no life was opened over these volumes, which came back so. A new cluster's first checkpoint has no room, or the
  -- one behind the records that the log has.
  abbrev pub IsNoLife : Cluster → Volumes L P → Volumes L P → NoLife → Type 0
  IsNoLife c old new (no_lives.Damaged at) = IsTrue l.tells → opened (l.reads old.log) ≡ Err at
  IsNoLife c old new no_lives.Device = HasVolumeFailed old new
  IsNoLife c old new no_lives.Full =
      ((gate : ℕ) × OpensEmpty old.log gate × HasNoRoom c gate) ⊎ (IsTrue l.tells → recovery.HasNoRoom (l.reads old.log))
  IsNoLife c old new no_lives.Memory = Unit {0}

  -- the volumes were mounted so, were given back so, and no life was opened over them
  abbrev pub HasRestedVolumes : Cluster → (ℕ → Volumes L P → Type 0) → (Volumes L P → Type 0) → NoLife → Type 0
  HasRestedVolumes c first gives refusal =
      (old new : Volumes L P) × first c.banks old × Only new gives × IsNoLife c old new refusal

  -- Why no life was opened over a media with these counts of faults, which holds these volumes now. Where a device
  -- failed, the media's count rose, or that of a volume since the mounting, until the media took the volumes back.
  abbrev pub IsUnopened : Cluster → (ℕ → Volumes L P → Type 0) → ℕ → ℕ → (Volumes L P → Type 0) → NoLife → Type 0
  IsUnopened c first before now gives no_lives.Device = HasRisen before now ⊎ HasRestedVolumes c first gives no_lives.Device
  IsUnopened c first before now gives no_lives.Memory = Unit {0}
  IsUnopened c first before now gives refusal = HasRestedVolumes c first gives refusal
