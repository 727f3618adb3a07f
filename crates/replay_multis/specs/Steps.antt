-- What calls on a bank do to each byte of its pages, and what a crash within them leaves.
use Rattle.std.specs.Prelude.{◌≡◌, ◌⊎◌, ℕ, ◌^◌, ◌<◌, ◌≤◌, List, IsErr, IsTrue, OnOk, Err, Result, slice_index}
use Rattle.disk_core.specs.Faults.{HasRisen}
use Rattle.disk_core.specs.Pages.{Pages}
use Rattle.disk_core.specs.declared.page_disk.PageDisk as disks
use Rattle.store_pages.specs.declared.page_rule.PageRule as rules
use Rattle.slru_bank.specs.declared.bank.SlruBank.{SlruBank}
use Rattle.slru_bank.specs.declared.refusal.BankRefusal.{BankRefusal}
use Rattle.slru_bank.specs.declared.refusal.BankRefusal.TheVariants.{DiskFault}
use Rattle.slru_bank.specs.Calls.{cutoff_of, faults_of, pages_of, volume_of}
use Rattle.slru_bank.specs.Crash.{CrashLeaves, byte_at}

-- which bytes may come to stand at a place of a page
abbrev pub MayStand : Type 1
MayStand = ℕ → ℕ → ℕ → Type 0

-- each byte is as it was, or one that may come to stand there
abbrev pub Changes : MayStand → (ℕ → List ℕ) → (ℕ → List ℕ) → Type 0
Changes May old new = (q i : ℕ) → q < 2 ^ 32 → (slice_index (new q) i ≡ slice_index (old q) i) ⊎ May q i (slice_index (new q) i)

-- a crash leaves of each byte what an image of before had, or the map, or one that may come to stand there
pub record MayLeave (May : MayStand) (m : ℕ → List ℕ) (c d : Pages) : Type 0 where
  pub each : (q i : ℕ) → q < 2 ^ 32 → (byte_at d q i ≡ byte_at c q i) ⊎ ((byte_at d q i ≡ slice_index (m q) i) ⊎ May q i (byte_at d q i))

-- what is named at a place stands there; where two bytes are named at one place, either
abbrev pub HoldsNamed : MayStand → (ℕ → List ℕ) → Type 0
HoldsNamed Named m = (q i b : ℕ) → q < 2 ^ 32 → Named q i b → Named q i (slice_index (m q) i)

module _ {P O : Type 0} {g : disks.Ghosts P} {r : rules.Ghosts O} where
  -- Calls change no other byte, as far as they got. Only a volume that fails refuses one.
  pub record StepsBank (May : MayStand) (old new : SlruBank P O g r) (result : Result (Unit {0}) BankRefusal) : Type 0 where
    pub cutoff : cutoff_of new ≡ cutoff_of old
    pub fault : IsErr result → (result ≡ Err DiskFault) × HasRisen (faults_of old) (faults_of new)
    pub count : faults_of old ≤ faults_of new
    pub each : IsTrue g.tells → Changes May (pages_of old) (pages_of new)
    pub moments : IsTrue g.tells → CrashLeaves (MayLeave May (pages_of old)) g.images g.moment g.left_at (volume_of old) (volume_of new)

  -- they put all that is named where it is named
  pub record RedoesBank (Named : MayStand) (old new : SlruBank P O g r) (result : Result (Unit {0}) BankRefusal) : Type 0 where
    pub steps : StepsBank Named old new result
    pub done : IsTrue g.tells → OnOk result (HoldsNamed Named (pages_of new))
