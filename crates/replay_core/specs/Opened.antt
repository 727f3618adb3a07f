-- The log as it was found, and what becomes of it until it is settled.
use Rattle.std.specs.Prelude.{◌≡◌, ◌⊎◌, ℕ, ◌+◌, ◌≤◌, IsTrue, List, [], ◌∷◌, ◌++◌, length, None, Some, Ok}
use Rattle.disk_core.specs.Volume.{Volume}
use Rattle.disk_core.specs.declared.log_disk.LogDisk as logs
use Rattle.tx_events.specs.Base.{IsBase}
use Rattle.tx_events.specs.declared.record.Counters.{Counters}
use Rattle.tx_events.specs.declared.record.Rec.{Rec}
use Rattle.tx_events.specs.declared.record.Rec.TheVariants as records
use Rattle.wal_core.specs.declared.wal_log.WalLog.{WalLog}
use Rattle.wal_core.specs.Kept.{HasFlushed}
use Rattle.wal_core.specs.Log.{OpensAsBefore}
use Rattle.wal_core.specs.LogContents.{ComesTo}
use Rattle.wal_core.specs.LogViews.{KeepsAll, log_counters, log_disk, log_down, log_end, log_first, log_flushed, log_next, log_pending, log_recs}
use Rattle.wal_core.specs.Opening.{opened}
use Rattle.replay_core.specs.declared.found.Found.{Found}
use Rattle.replay_core.specs.declared.found.FoundLog.{FoundLog}
use Rattle.replay_core.specs.declared.found.FoundLog.TheVariants as found_logs

module _ {D : Type 0} {g : logs.Ghosts D} where
  -- a log that was just started, with these counters
  pub record IsOpen (base : Counters) (log : WalLog D g) : Type 0 where
    pub is_base : IsBase base
    pub recs : log_recs log ≡ []
    pub flushed : log_flushed log ≡ log_next log
    pub up : log_down log ≡ None
    pub counters : log_counters log ≡ Some base
    pub keeps : IsTrue g.tells → (first : ℕ) × (all : List Rec) × KeepsAll first all g.images log

  -- It is that of this volume, with the records that the volume has.
  pub record IsFound (disk : D) (found : Found D g) : Type 0 where
    pub is_open : IsOpen found.base found.log
    pub next : log_next found.log ≡ log_first found.log + length found.recs
    pub comes : ComesTo (log_first found.log) found.recs (Some found.base)
    pub count : g.faults disk ≤ g.faults (log_disk found.log)
    pub opens : IsTrue g.tells → opened (g.reads disk) ≡ Ok (record { history = Some (record { first = log_first found.log; recs = found.recs; counters = found.base }); gate = log_end found.log })
    pub keeps : IsTrue g.tells → KeepsAll (log_first found.log) found.recs g.images found.log

  -- It is that of this volume, which has no record.
  pub record IsFoundNew (disk : D) (log : WalLog D g) : Type 0 where
    pub recs : log_recs log ≡ []
    pub next : log_next log ≡ 0
    pub first : log_first log ≡ 0
    pub flushed : log_flushed log ≡ 0
    pub up : log_down log ≡ None
    pub counters : log_counters log ≡ None
    pub count : g.faults disk ≤ g.faults (log_disk log)
    pub opens : IsTrue g.tells → opened (g.reads disk) ≡ Ok (record { history = None; gate = log_end log })
    pub keeps : IsTrue g.tells → KeepsAll 0 [] g.images log

  -- so it was found
  abbrev pub IsFoundLog : D → FoundLog D g → Type 0
  IsFoundLog disk (found_logs.New log) = IsFoundNew disk log
  IsFoundLog disk (found_logs.Old found) = IsFound disk found

  -- with the checkpoint behind its records, which isn't flushed yet
  pub record HasCheckpoint (number : ℕ) (base : Counters) (old log : WalLog D g) : Type 0 where
    pub is_base : IsBase base
    pub recs : log_recs log ≡ records.Checkpoint number base ∷ []
    pub pending : log_pending log ≡ records.Checkpoint number base ∷ []
    pub next : log_next log ≡ number + 1
    pub flushed : log_flushed log ≡ number
    pub first : log_first log ≡ log_first old
    pub up : log_down log ≡ None
    pub counters : log_counters log ≡ Some base
    pub same_disk : log_disk log ≡ log_disk old
    pub keeps : IsTrue g.tells → (first : ℕ) (all : List Rec) → KeepsAll first all g.images old → KeepsAll first (all ++ records.Checkpoint number base ∷ []) g.images log

-- each image opens as one of before
abbrev pub OpensStill : {D : Type 0} → logs.Ghosts D → D → D → Type 0
OpensStill g old new = (c : Volume) → g.images new c → OpensAsBefore (g.images old) c

-- each image has the records of a list from one on that isn't past `kept`, up to one that is at least `flushed`
abbrev pub EachHas : ℕ → List Rec → ℕ → ℕ → (Volume → Type 0) → Type 0
EachHas first all kept flushed images = (v : Volume) → images v → HasFlushed first all kept flushed v

-- the checkpoint isn't there, or it may be, or it is on disk and the log may begin with it
abbrev pub MaySettle : ℕ → List Rec → ℕ → ℕ → Counters → (Volume → Type 0) → Type 0
MaySettle first all kept number base images =
    EachHas first all kept number images
    ⊎ (EachHas first (all ++ records.Checkpoint number base ∷ []) kept number images ⊎ EachHas first (all ++ records.Checkpoint number base ∷ []) number (number + 1) images)

module _ {D : Type 0} (g : logs.Ghosts D) where
  -- so of each list that the log kept before
  abbrev pub LeavesLog : Counters → WalLog D g → WalLog D g → Type 0
  LeavesLog base old new = (first : ℕ) (all : List Rec) → KeepsAll first all g.images old
      → MaySettle first all (log_first old) (log_next old) base (g.images (log_disk new))

  abbrev pub SettlesLog : Counters → WalLog D g → WalLog D g → Type 0
  SettlesLog base old new = (first : ℕ) (all : List Rec) → KeepsAll first all g.images old
      → KeepsAll first (all ++ records.Checkpoint (log_next old) base ∷ []) g.images new
