-- What a recovery does to the pages of pg_xact: it redoes the commits, and clears the states from the next id on.
use Rattle.std.specs.Prelude.{◌≡◌, ℕ, ◌+◌, ◌^◌, ◌<◌, ◌≤◌, ◌⊎◌, List, true, IsErr, IsTrue, OnOk, Err, Result}
use Rattle.disk_core.specs.Faults.{HasRisen}
use Rattle.disk_core.specs.Pages.{Pages}
use Rattle.disk_core.specs.declared.page_disk.PageDisk as disks
use Rattle.store_pages.specs.Layouts.{xact_page_of, xact_place_of}
use Rattle.store_pages.specs.declared.page_rule.PageRule as rules
use Rattle.tx_events.specs.PageOrder.{Ids, page_precedes}
use Rattle.slru_bank.specs.declared.bank.SlruBank.{SlruBank}
use Rattle.slru_bank.specs.declared.refusal.BankRefusal.{BankRefusal}
use Rattle.slru_bank.specs.declared.refusal.BankRefusal.TheVariants.{DiskFault}
use Rattle.slru_bank.specs.Calls.{IsDurable, faults_of, pages_of, volume_of}
use Rattle.slru_bank.specs.Crash.{CrashLeaves}
use Rattle.recoverable.specs.XactImages.{code_at}
use Rattle.replay_core.specs.Redo.{HasPlace, code_in}
pub use Rattle.replay_multis.specs.Restore.{HasBytesOnDisk, bytes_on}

-- the ids that a life has room for, as far as its places tell them apart
abbrev pub IsWindow : ℕ → ℕ → Type 0
IsWindow oldest next = (oldest ≤ next) × (next + 2 ^ 15 < oldest + 2 ^ 31)

-- the place is that of the next id or comes behind it on its page, or lies on a page that comes after
abbrev pub IsPast : ℕ → ℕ → Type 0
IsPast next x = ((xact_page_of x ≡ xact_page_of next) × (xact_place_of next ≤ xact_place_of x)) ⊎ (page_precedes Ids 32768 (xact_page_of next) (xact_page_of x) ≡ true)

-- a place may come to be committed, where a named id stands, or empty, past the next id
abbrev pub MayBecome : (ℕ → Type 0) → ℕ → ℕ → ℕ → Type 0
MayBecome Named next x code = ((code ≡ 1) × HasPlace Named x) ⊎ ((code ≡ 0) × IsPast next x)

abbrev pub Restores : (ℕ → Type 0) → ℕ → (ℕ → List ℕ) → (ℕ → List ℕ) → Type 0
Restores Named next old new = (x : ℕ) → (code_in new x ≡ code_in old x) ⊎ MayBecome Named next x (code_in new x)

-- All that is named and not past is committed, all that is past is empty, and all else is as it was.
pub record RestoresAll (Named : ℕ → Type 0) (next : ℕ) (old new : ℕ → List ℕ) : Type 0 where
  pub each : Restores Named next old new
  pub done : (y : ℕ) → Named y → (IsPast next y → ⊥) → code_in new y ≡ 1
  pub cleared : (x : ℕ) → IsPast next x → code_in new x ≡ 0

-- a crash leaves of each place what an image of before had, or the map, or what it may become
pub record MayRestore (Named : ℕ → Type 0) (next : ℕ) (m : ℕ → List ℕ) (c d : Pages) : Type 0 where
  pub each : (x : ℕ) → (code_at d x ≡ code_at c x) ⊎ ((code_at d x ≡ code_in m x) ⊎ MayBecome Named next x (code_at d x))

module _ {P O : Type 0} {g : disks.Ghosts P} {r : rules.Ghosts O} where
  -- The pages show that, and all of it is on the disk; or the volume failed on the way.
  pub record RestoresBank (Named : ℕ → Type 0) (next : ℕ) (old new : SlruBank P O g r) (result : Result (Unit {0}) BankRefusal) : Type 0 where
    pub fault : IsErr result → (result ≡ Err DiskFault) × HasRisen (faults_of old) (faults_of new)
    pub count : faults_of old ≤ faults_of new
    pub shows : IsTrue g.tells → OnOk result (RestoresAll Named next (pages_of old) (pages_of new))
    pub durable : IsTrue g.tells → OnOk result (IsDurable new)
    pub moments : IsTrue g.tells → CrashLeaves (MayRestore Named next (pages_of old)) g.images g.moment g.left_at (volume_of old) (volume_of new)
