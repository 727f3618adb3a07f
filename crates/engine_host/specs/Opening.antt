-- What a new engine starts from, and what its parts stand for.
use Rattle.std.specs.Prelude.{◌≡◌, ℕ, ◌+◌, ◌*◌, ◌%◌, ◌≤◌, ◌<◌, ◌^◌, Bool, true, false, cond, IsTrue, List, [], ◌∷◌, Option, None, Some, slice_get, slice_index, get_or, length, map}
use Rattle.disk_core.specs.declared.log_disk.LogDisk as logs
use Rattle.disk_core.specs.declared.page_disk.PageDisk as disks
use Rattle.disk_core.specs.Pages.{Pages, page_bytes, zero_page}
use Rattle.tx_events.specs.Base.{IsBase}
use Rattle.tx_events.specs.declared.record.Rec.{Rec}
use Rattle.tx_events.specs.declared.record.Rec.TheVariants as records
use Rattle.wal_core.specs.declared.wal_log.WalLog.{WalLog}
use Rattle.wal_core.specs.LogViews.{KeepsAll, log_counters, log_disk, log_down, log_end, log_first, log_flushed, log_next, log_recs}
use Rattle.slru_bank.specs.Calls.{faults_of}
use Rattle.slru_bank.specs.declared.bank.SlruBank.{SlruBank}
use Rattle.store_pages.specs.Layouts.{member_page_of, state_in, word_page_of, word_place_of, xact_page_of, xact_place_of}
use Rattle.store_pages.specs.declared.page_rule.PageRule as rules
use Rattle.tx_core.specs.CleanMultis.{CleanMembers, CleanOffsets}
use Rattle.tx_core.specs.CleanStart.{CleanStart}
use Rattle.tx_core.specs.StoredBytes.{HasZeroTails, StoredBytes, byte_held, slot_place_of}
use Rattle.tx_core.specs.declared.entry.Start.{Start}
use Rattle.tx_core.specs.declared.entry.State.{State}
use Rattle.tx_core.specs.Locks.{log_lock, members_lock, offsets_lock, subtrans_lock, xact_lock}
use Rattle.engine_parts.specs.declared.part.Part.{Part}
use Rattle.engine_parts.specs.declared.part.Part.TheVariants as parts
use Rattle.engine_parts.specs.Parts.{IsLogOf, IsMembersOf, IsOffsetsOf, IsSubtransOf, IsXactOf, PartStands}
use Rattle.engine_parts.specs.Sessions.{AreGivenBefore}
use Rattle.engine_parts.specs.Stand.{number_of_state}
use Rattle.engine_host.specs.Stores.{Store, volumes_in}
use Rattle.engine_host.specs.declared.cluster.BankVolumes.{BankVolumes}
use Rattle.engine_host.specs.declared.cluster.Cluster.{Cluster}
use Rattle.engine_host.specs.declared.cluster.Parts.{Parts}

-- the counters are a base, and there are so many banks and sessions
pub record IsCluster (c : Cluster) : Type 0 where
  pub base : IsBase c.base
  pub banks : (1 ≤ c.banks) × (c.banks ≤ 16)
  pub sessions : c.sessions ≤ 64

-- What a life begins with beside its cluster: the number of the checkpoint that the log has last and the place where
-- its batches end, the ids that are committed and the multixacts that were recorded before it, and whether the volumes
-- told that.
pub record Beginning : Type 0 where
  pub number : ℕ
  pub gate : ℕ
  pub committed : List ℕ
  pub recorded : List Rec
  pub told : Bool

-- A life that begins so. These are the volumes' counts of faults.
abbrev pub life_from : Cluster → Beginning → List ℕ → Start
life_from c b faults = record {
  banks = c.banks;
  sessions = c.sessions;
  from = b.number + 1;
  base = c.base;
  committed = b.committed;
  recorded = b.recorded;
  logged = records.Checkpoint b.number c.base ∷ [];
  gate = b.gate;
  told = b.told;
  faults = faults;
}

-- so where the log's batches end here
abbrev pub at_gate : Beginning → ℕ → Beginning
at_gate b gate = record { number = b.number; gate = gate; committed = b.committed; recorded = b.recorded; told = b.told }

-- over a new log, which has one record: nothing is committed, and no multixact was recorded, whatever the volumes tell
abbrev pub nothing_before : Beginning
nothing_before = record { number = 0; gate = 0; committed = []; recorded = []; told = true }

abbrev pub life_of : Cluster → ℕ → List ℕ → Start
life_of c gate faults = life_from c (at_gate nothing_before gate) faults

-- a log without a record
pub record IsEmptyLog {D : Type 0} {g : logs.Ghosts D} (log : WalLog D g) : Type 0 where
  pub recs : log_recs log ≡ []
  pub next : log_next log ≡ 0
  pub first : log_first log ≡ 0
  pub flushed : log_flushed log ≡ 0
  pub down : log_down log ≡ None
  pub counters : log_counters log ≡ None
  pub keeps : IsTrue g.tells → KeepsAll 0 [] g.images log

-- a log with one record, the first checkpoint
pub record HasFirst {D : Type 0} {g : logs.Ghosts D} (c : Cluster) (log : WalLog D g) : Type 0 where
  pub recs : log_recs log ≡ records.Checkpoint 0 c.base ∷ []
  pub next : log_next log ≡ 1
  pub first : log_first log ≡ 0
  pub down : log_down log ≡ None
  pub counters : log_counters log ≡ Some c.base
  pub keeps : IsTrue g.tells → KeepsAll 0 (records.Checkpoint 0 c.base ∷ []) g.images log

-- a log that stands for a list without entries, with the checkpoint on disk
abbrev pub IsBegunLog : {D : Type 0} → {g : logs.Ghosts D} → Cluster → Beginning → WalLog D g → Type 0
IsBegunLog {g = g} c b log =
    (faults : List ℕ) → get_or faults log_lock 0 ≤ g.faults (log_disk log)
    → IsLogOf (life_from c (at_gate b (log_end log)) faults) log []

-- The bytes of a bank's pages show states of a clean start: of each id of the bank its own.
pub record ShowStates (c : Cluster) (b : Beginning) (bank : ℕ) (bytes : ℕ → List ℕ) : Type 0 where
  pub shown : ℕ → Option State
  pub clean : CleanStart (life_from c b []) shown
  pub each : (x : ℕ) → xact_page_of x % c.banks ≡ bank
      → state_in (bytes (xact_page_of x)) (xact_place_of x) ≡ number_of_state (shown x)

-- Those of a bank of offsets show offsets of a clean start, byte by byte: of each multixact of the bank its own.
pub record ShowOffsets (c : Cluster) (b : Beginning) (bank : ℕ) (bytes : ℕ → List ℕ) : Type 0 where
  pub shown : ℕ → Option StoredBytes
  pub clean : CleanOffsets (life_from c b []) shown
  pub each : (x i : ℕ) → i < 4 → word_page_of x % c.banks ≡ bank
      → slice_index (bytes (word_page_of x)) (word_place_of x + i) ≡ byte_held (shown x) i

-- Those of a bank of members so show members, and nothing behind the last slot of a page.
pub record ShowMembers (c : Cluster) (b : Beginning) (bank : ℕ) (bytes : ℕ → List ℕ) : Type 0 where
  pub shown : ℕ → Option StoredBytes
  pub clean : CleanMembers (life_from c b []) shown
  pub each : (x i : ℕ) → i < 5 → member_page_of x % c.banks ≡ bank
      → slice_index (bytes (member_page_of x)) (slot_place_of x i) ≡ byte_held (shown x) i
  pub tails : HasZeroTails bytes

-- no page has anything
abbrev pub ShowNothing : (ℕ → List ℕ) → Type 0
ShowNothing bytes = (q : ℕ) → q < 2 ^ 32 → bytes q ≡ zero_page

module _ {P : Type 0} (p : disks.Ghosts P) where
  -- the bytes of a volume's pages, which may be removed first
  abbrev pub bytes_left : Bool → P → ℕ → List ℕ
  bytes_left removed disk q = cond removed zero_page (page_bytes (p.pages disk q))

  -- so each of these volumes, the first of which is that of this bank
  abbrev pub AllShow : (ℕ → (ℕ → List ℕ) → Type 0) → Bool → ℕ → List P → Type 0
  AllShow Shows removed first volumes =
      (n : ℕ) (disk : P) → slice_get volumes n ≡ Some disk → Shows (first + n) (bytes_left removed disk)

  abbrev pub AllShowNothing : Bool → List P → Type 0
  AllShowNothing removed volumes =
      (n : ℕ) (disk : P) → slice_get volumes n ≡ Some disk → ShowNothing (bytes_left removed disk)

  -- each image that a crash may leave has the bytes of the pages
  abbrev pub IsOnDisk : P → Type 0
  IsOnDisk disk = (c : Pages) → p.images disk c → (q : ℕ) → page_bytes (c q) ≡ page_bytes (p.pages disk q)

  -- so of each of these volumes
  abbrev pub AllOnDisk : List P → Type 0
  AllOnDisk volumes = (n : ℕ) (disk : P) → slice_get volumes n ≡ Some disk → IsOnDisk disk

  -- A life may begin over these volumes, the first of which are of this bank: their pages show what it begins with,
  -- where they may be removed first, and as they are they are on disk.
  pub record ShowBeginning (c : Cluster) (b : Beginning) (removed : Bool) (first : ℕ) (volumes : BankVolumes P) : Type 0 where
    pub states : AllShow (ShowStates c b) removed first volumes.xact.items
    pub parents : AllShowNothing removed volumes.subtrans.items
    pub offsets : AllShow (ShowOffsets c b) removed first volumes.offsets.items
    pub members : AllShow (ShowMembers c b) removed first volumes.members.items
    pub durable : removed ≡ false → (k : Store) → AllOnDisk (volumes_in k volumes).items

module _ {P O : Type 0} {g : disks.Ghosts P} {r : rules.Ghosts O} where
  -- banks that stand for lists without entries
  abbrev pub IsNewXact : Cluster → Beginning → ℕ → SlruBank P O g r → Type 0
  IsNewXact c b bank store =
      (gate : ℕ) (faults : List ℕ) → get_or faults (xact_lock bank) 0 ≤ faults_of store
      → IsXactOf (life_from c (at_gate b gate) faults) bank store []

  abbrev pub IsNewSubtrans : Cluster → Beginning → ℕ → SlruBank P O g r → Type 0
  IsNewSubtrans c b bank store =
      (gate : ℕ) (faults : List ℕ) → get_or faults (subtrans_lock bank) 0 ≤ faults_of store
      → IsSubtransOf (life_from c (at_gate b gate) faults) bank store []

  abbrev pub IsNewOffsets : Cluster → Beginning → ℕ → SlruBank P O g r → Type 0
  IsNewOffsets c b bank store =
      (gate : ℕ) (faults : List ℕ) → get_or faults (offsets_lock bank) 0 ≤ faults_of store
      → IsOffsetsOf (life_from c (at_gate b gate) faults) bank store []

  abbrev pub IsNewMembers : Cluster → Beginning → ℕ → SlruBank P O g r → Type 0
  IsNewMembers c b bank store =
      (gate : ℕ) (faults : List ℕ) → get_or faults (members_lock bank) 0 ≤ faults_of store
      → IsMembersOf (life_from c (at_gate b gate) faults) bank store []

module _ {L P : Type 0} {l : logs.Ghosts L} {p : disks.Ghosts P} where
  -- how often the volume of a part has failed
  abbrev pub faults_behind : Part L P l p → ℕ
  faults_behind (parts.Log log) = l.faults (log_disk log.value)
  faults_behind (parts.Xact store) = faults_of store.value
  faults_behind (parts.Subtrans store) = faults_of store.value
  faults_behind (parts.Offsets store) = faults_of store.value
  faults_behind (parts.Members store) = faults_of store.value
  faults_behind part = 0

  -- the part stands for a list without entries, whatever counts the life begins with that its volume has reached, where
  -- the life's log ends as the log does, if it is that
  abbrev pub EndsAt : ℕ → Part L P l p → Type 0
  EndsAt gate (parts.Log log) = gate ≡ log_end log.value
  EndsAt gate part = Unit {0}

  abbrev pub IsNewPart : Cluster → Beginning → ℕ → Part L P l p → Type 0
  IsNewPart c b lock part =
      (gate : ℕ) (faults : List ℕ) → EndsAt gate part → get_or faults lock 0 ≤ faults_behind part
      → PartStands (life_from c (at_gate b gate) faults) lock part []

  -- so each of these, the first of which lies behind this lock
  abbrev pub AreNew : Cluster → Beginning → ℕ → List (Part L P l p) → Type 0
  AreNew c b first locks =
      (n : ℕ) (part : Part L P l p) → slice_get locks n ≡ Some part → IsNewPart c b (first + n) part

  -- a part behind each lock, which stands for the list without entries
  pub record AreParts (parts : Parts L P l p) : Type 0 where
    pub cluster : IsCluster parts.cluster
    pub banks : parts.start.value.banks ≡ parts.cluster.banks
    pub sessions : parts.start.value.sessions ≡ parts.cluster.sessions
    pub base : parts.start.value.base ≡ parts.cluster.base
    pub before : AreGivenBefore parts.start.value
    pub count : length parts.locks.items ≡ 3 + 4 * parts.cluster.banks
    pub stand : (lock : ℕ) (part : Part L P l p) → slice_get parts.locks.items lock ≡ Some part
        → PartStands parts.start.value lock part []

  -- where the log's batches end that lies behind the first lock
  abbrev pub gate_behind : List (Part L P l p) → ℕ
  gate_behind (parts.Log log ∷ locks) = log_end log.value
  gate_behind locks = 0

  -- what a new engine starts from, whose log ends there
  abbrev pub new_life : Cluster → Beginning → List (Part L P l p) → Start
  new_life cluster begins locks = life_from cluster (at_gate begins (gate_behind locks)) (map faults_behind locks)
