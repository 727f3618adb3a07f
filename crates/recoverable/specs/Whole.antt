-- The law on all volumes at once: where the engine invariant holds, the life began right and was short, and each image
-- of a volume follows its list, over pages that showed the life's base, the volumes fit.
use Rattle.std.specs.Prelude.{◌≡◌, ℕ, ◌+◌, ◌<◌, List, [], ◌∷◌, length, Option, IsTrue, None}
use Rattle.tx_events.specs.Ids.{IsFullMulti}
use Rattle.disk_core.specs.Pages.{Pages}
use Rattle.disk_core.specs.Volume.{Volume}
use Rattle.wal_core.specs.Kept.{HasFlushed}
use Rattle.tx_events.specs.Events.{given}
use Rattle.tx_events.specs.Multis.{made}
use Rattle.tx_events.specs.Base.{IsBase}
use Rattle.tx_events.specs.declared.record.Rec.TheVariants as records
use Rattle.notes.specs.Lists.{at}
use Rattle.tx_core.specs.declared.entry.Entry.{Entry}
use Rattle.tx_core.specs.declared.entry.Start.{Start}
use Rattle.tx_core.specs.declared.entry.State.{State}
use Rattle.tx_core.specs.CleanStart.{CleanStart}
use Rattle.tx_core.specs.EngineInvariant.{EngineInvariant}
use Rattle.tx_core.specs.Entries.{history}
use Rattle.tx_core.specs.Locks.{log_lock, members_lock, offsets_lock, xact_lock}
use Rattle.tx_core.specs.MultiEntries.{multi_history}
use Rattle.recoverable.specs.Bytes.{ImageHasZeroTails, StoredBytes}
use Rattle.recoverable.specs.Fit.{KeptLog, MayBegin}
use Rattle.recoverable.specs.Laws.{IsBeginningOf, LogFollows, LogOf, life_base}
use Rattle.tx_events.specs.LifeBase.{AreBelowNext, IsLifeBase}
use Rattle.recoverable.specs.MemberImages.{CleanMembers, MembersFollow}
use Rattle.recoverable.specs.OffsetImages.{CleanOffsets, OffsetsFollow}
use Rattle.recoverable.specs.Volumes.{EndsSettled, ImageFits, Left, ListFits, VolumesFit}
use Rattle.recoverable.specs.XactImages.{Follows}

-- what the pages showed when a life began
pub record Shown : Type 0 where
  pub xact : ℕ → Option State
  pub offsets : ℕ → Option StoredBytes
  pub members : ℕ → Option StoredBytes

-- A life began with a base from which a life may start, and with pages that told. That its next multixact is one comes
-- from that counter's type, `FullMulti`.
pub record BeganRight (start : Start) : Type 0 where
  pub told : IsTrue start.told
  pub full : IsFullMulti start.base.multi
  pub base : IsLifeBase (life_base start)

-- It began clean, too: the pages showed its base.
pub record BeganClean (start : Start) (shown : Shown) : Type 0 where
  pub right : BeganRight start
  pub xact : CleanStart start shown.xact
  pub offsets : CleanOffsets start shown.offsets
  pub members : CleanMembers start shown.members

-- Over new volumes, which show nothing, a life begins clean.
abbrev pub NewBegins : Type 0
NewBegins = (start : Start) → IsTrue start.told → IsFullMulti start.base.multi → IsBase start.base
    → start.committed ≡ [] → start.recorded ≡ []
    → BeganClean start (record { xact = λ x. None; offsets = λ x. None; members = λ x. None })

-- so few ids and multixacts were given that no stored number came round
pub record IsShort (lists : List (List Entry)) : Type 0 where
  pub ids : length (given (history lists)) < 2900000
  pub multis : length (made (multi_history lists)) < 2900000

-- the disks of all volumes, those of the page volumes by their bank
pub record Disks (L P : Type 0) : Type 0 where
  pub log : L
  pub xact : ℕ → P
  pub offsets : ℕ → P
  pub members : ℕ → P

-- An image of the log's volume opens to records of the log, those on disk among them, and begins at none past the first
-- that is kept: one from before the life, or a checkpoint before which the log was to be forgotten.
pub record LogImage (start : Start) (es : List Entry) (log : KeptLog) (v : Volume) : Type 0 where
  pub kept : ℕ
  pub opens : HasFlushed log.first log.recs kept log.flushed v
  pub forgotten : IsBeginningOf start es kept

-- An image of a bank shows its list, over pages that showed the life's base: of pg_xact, of offsets, and of members.
pub record StatesLeft (start : Start) (bank : ℕ) (es : List Entry) (c : Pages) : Type 0 where
  pub shown : ℕ → Option State
  pub clean : CleanStart start shown
  pub follows : Follows start bank shown es c

pub record OffsetsLeft (start : Start) (bank : ℕ) (es : List Entry) (c : Pages) : Type 0 where
  pub shown : ℕ → Option StoredBytes
  pub clean : CleanOffsets start shown
  pub follows : OffsetsFollow start bank shown es c

pub record MembersLeft (start : Start) (bank : ℕ) (es : List Entry) (c : Pages) : Type 0 where
  pub shown : ℕ → Option StoredBytes
  pub clean : CleanMembers start shown
  pub follows : MembersFollow start bank shown es c
  pub tails : ImageHasZeroTails c

-- what a crash left of all volumes follows the lists
pub record LeftFollows (start : Start) (lists : List (List Entry)) (log : KeptLog) (left : Left) : Type 0 where
  pub log_image : LogImage start (at lists log_lock) log left.log
  pub states : (bank : ℕ) → bank < start.banks → StatesLeft start bank (at lists (xact_lock bank)) (left.xact bank)
  pub offsets_are : (bank : ℕ) → bank < start.banks
      → OffsetsLeft start bank (at lists (offsets_lock bank)) (left.offsets bank)
  pub members_are : (bank : ℕ) → bank < start.banks
      → MembersLeft start bank (at lists (members_lock bank)) (left.members bank)

-- Each combination of images that follow the same lists fits the log.
abbrev pub ImageFitsLaw : Type 0
ImageFitsLaw = (start : Start) (lists : List (List Entry)) (log : KeptLog) (left : Left)
    → EngineInvariant start lists → BeganRight start → IsShort lists
    → LogFollows start lists log → LeftFollows start lists log left → ImageFits start.banks log left

module _ {L P : Type 0} (log_images : L → Volume → Type 0) (images : P → Pages → Type 0) where
  -- a crash leaves these disks so
  pub record LeftOf (banks : ℕ) (disks : Disks L P) (left : Left) : Type 0 where
    pub log : log_images disks.log left.log
    pub xact : (bank : ℕ) → bank < banks → images (disks.xact bank) (left.xact bank)
    pub offsets : (bank : ℕ) → bank < banks → images (disks.offsets bank) (left.offsets bank)
    pub members : (bank : ℕ) → bank < banks → images (disks.members bank) (left.members bank)

  -- so the volumes of disks fit
  abbrev pub VolumesFitLaw : Type 0
  VolumesFitLaw = (start : Start) (lists : List (List Entry)) (log : KeptLog) (disks : Disks L P)
      → EngineInvariant start lists → BeganRight start → IsShort lists → LogFollows start lists log
      → ((left : Left) → LeftOf start.banks disks left → LeftFollows start lists log left)
      → VolumesFit start.banks log (LeftOf start.banks disks)

-- The log behind a recovery, of which each image fits, is as a life begins with it: before the first entry.
abbrev pub LogBegins : Type 0
LogBegins = (start : Start) (log : KeptLog) (from : ℕ) (left : Left) → start.from ≡ from + 1 → MayBegin log from
    → ListFits log → EndsSettled log from (life_base start) → ImageFits start.banks log left
    → LogOf start [] log × LogImage start [] log left.log

-- the log of new volumes: one checkpoint, of the life's base, which is on disk
abbrev pub new_log : Start → ℕ → KeptLog
new_log start number = record {
  base = life_base start;
  first = number;
  recs = records.Checkpoint number start.base ∷ [];
  flushed = number + 1;
}

-- So is that log, and each image that has its record, of a base whose multixacts lie below its counters.
abbrev pub NewLogBegins : Type 0
NewLogBegins = (start : Start) (number : ℕ) (v : Volume) → start.from ≡ number + 1 → AreBelowNext (life_base start)
    → (let log = new_log start number in HasFlushed log.first log.recs number log.flushed v
    → LogOf start [] log × LogImage start [] log v)
