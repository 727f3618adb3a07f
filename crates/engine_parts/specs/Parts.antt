-- What a part behind a lock stands for.
use Rattle.std.specs.Prelude.{◌≡◌, ℕ, IsTrue, List}
use Rattle.disk_core.specs.declared.log_disk.LogDisk as logs
use Rattle.disk_core.specs.declared.page_disk.PageDisk as disks
use Rattle.store_pages.specs.declared.page_rule.PageRule as rules
use Rattle.slru_bank.specs.declared.bank.SlruBank.{SlruBank}
use Rattle.slru_bank.specs.Calls.{cutoff_of, faults_of, last_page, pages_of}
use Rattle.wal_core.specs.declared.wal_log.WalLog.{WalLog}
use Rattle.wal_core.specs.LogViews.{log_checkpoint, log_counters, log_disk, log_down, log_first, log_flushed, log_next, log_recs}
use Rattle.tx_core.specs.declared.entry.Entry.{Entry}
use Rattle.tx_core.specs.declared.entry.Start.{Start}
use Rattle.tx_core.specs.Locks.{log_lock, members_lock, multi_lock, offsets_lock, proc_lock, subtrans_lock, xact_lock}
use Rattle.engine_parts.specs.declared.part.Part.{Part}
use Rattle.engine_parts.specs.declared.part.Part.TheVariants as parts
use Rattle.engine_parts.specs.BankCourse.{MembersCame, OffsetsCame, ParentsCame}
use Rattle.engine_parts.specs.Course.{HasCourse}
use Rattle.engine_parts.specs.LogTail.{log_tail}
use Rattle.engine_parts.specs.Shelves.{MembersStands, OffsetsStands}
use Rattle.engine_parts.specs.Stand.{LogStands, MultiStands, ProcStands, SubtransStands, XactStands}

module _ {D : Type 0} {g : logs.Ghosts D} where
  -- the log stands for the list of its lock
  abbrev pub IsLogOf : Start → WalLog D g → List Entry → Type 0
  IsLogOf start log es =
      LogStands start g.tells (g.faults (log_disk log)) (g.images (log_disk log)) (log_recs log) (log_next log)
      (log_first log) (log_flushed log) (log_counters log) (log_down log) (log_checkpoint log) (log_tail log) es

module _ {P O : Type 0} {g : disks.Ghosts P} {r : rules.Ghosts O} where
  -- a bank of pg_xact stands for the list of its lock
  abbrev pub IsXactOf : Start → ℕ → SlruBank P O g r → List Entry → Type 0
  IsXactOf start bank store es =
      XactStands start bank g.tells (faults_of store) (last_page store) (cutoff_of store) (pages_of store)
      (HasCourse start bank store) es

  -- one of pg_subtrans
  abbrev pub IsSubtransOf : Start → ℕ → SlruBank P O g r → List Entry → Type 0
  IsSubtransOf start bank store es =
      SubtransStands start bank g.tells (faults_of store) (last_page store) (cutoff_of store) (pages_of store)
      (ParentsCame start bank store) es

  -- one of offsets
  pub record IsOffsetsOf (start : Start) (bank : ℕ) (store : SlruBank P O g r) (es : List Entry) : Type 0 where
    pub stands : OffsetsStands start bank g.tells (faults_of store) (last_page store) (cutoff_of store) (pages_of store) es
    pub course : IsTrue g.tells → OffsetsCame start bank store es

  -- and one of members
  pub record IsMembersOf (start : Start) (bank : ℕ) (store : SlruBank P O g r) (es : List Entry) : Type 0 where
    pub stands : MembersStands start bank g.tells (faults_of store) (last_page store) (cutoff_of store) (pages_of store) es
    pub course : IsTrue g.tells → MembersCame start bank store es

module _ {L P : Type 0} {l : logs.Ghosts L} {p : disks.Ghosts P} where
  -- each kind of part lies behind its locks alone
  abbrev pub PartStands : Start → ℕ → Part L P l p → List Entry → Type 0
  PartStands start lock (parts.Log log) es = (lock ≡ log_lock) × IsLogOf start log.value es
  PartStands start lock (parts.Proc table) es = (lock ≡ proc_lock) × ProcStands start table.value es
  PartStands start lock (parts.Multi gen) es = (lock ≡ multi_lock) × MultiStands start gen.value es
  PartStands start lock (parts.Xact store) es = (bank : ℕ) × (lock ≡ xact_lock bank) × IsXactOf start bank store.value es
  PartStands start lock (parts.Subtrans store) es =
      (bank : ℕ) × (lock ≡ subtrans_lock bank) × IsSubtransOf start bank store.value es
  PartStands start lock (parts.Offsets store) es =
      (bank : ℕ) × (lock ≡ offsets_lock bank) × IsOffsetsOf start bank store.value es
  PartStands start lock (parts.Members store) es =
      (bank : ℕ) × (lock ≡ members_lock bank) × IsMembersOf start bank store.value es
