-- What the redo of commits does to the pages of pg_xact, and what a crash within it leaves.
use Rattle.std.specs.Prelude.{◌≡◌, ℕ, ◌+◌, ◌%◌, ◌^◌, ◌<◌, ◌≤◌, ◌⊎◌, List, Contains, IsErr, IsTrue, OnOk, Err, Result}
use Rattle.tx_events.specs.Ids.{low_half}
use Rattle.disk_core.specs.Faults.{HasRisen}
use Rattle.disk_core.specs.Pages.{Pages}
use Rattle.disk_core.specs.declared.page_disk.PageDisk as disks
use Rattle.store_pages.specs.Layouts.{state_in, xact_page_of, xact_place_of}
use Rattle.store_pages.specs.declared.page_rule.PageRule as rules
use Rattle.slru_bank.specs.declared.bank.SlruBank.{SlruBank}
use Rattle.slru_bank.specs.declared.refusal.BankRefusal.{BankRefusal}
use Rattle.slru_bank.specs.declared.refusal.BankRefusal.TheVariants.{DiskFault}
use Rattle.slru_bank.specs.Calls.{cutoff_of, faults_of, pages_of, volume_of}
use Rattle.slru_bank.specs.Crash.{CrashLeaves}
use Rattle.recoverable.specs.XactImages.{code_at}
use Rattle.replay_multis.specs.declared.share.Share.{Share}

-- the bits at the place of an id
abbrev pub code_in : (ℕ → List ℕ) → ℕ → ℕ
code_in m x = state_in (m (xact_page_of x)) (xact_place_of x)

-- one of these ids, from an oldest one on, on a page of the bank
pub record IsNamed (share : Share) (oldest : ℕ) (ids : List ℕ) (y : ℕ) : Type 0 where
  pub among : Contains ids y
  pub from : oldest ≤ y
  pub on : xact_page_of y % share.banks ≡ share.bank

-- none of them is
abbrev pub NamesNone : Share → ℕ → List ℕ → Type 0
NamesNone share oldest ids = (y : ℕ) → IsNamed share oldest ids y → ⊥

abbrev pub IsOne : ℕ → ℕ → Type 0
IsOne id y = y ≡ id

-- no id is so far ahead that its place could be that of an older one
abbrev pub AreNear : ℕ → List ℕ → Type 0
AreNear oldest ids = (y : ℕ) → Contains ids y → y + 2 ^ 15 < oldest + 2 ^ 31

-- a named id stands at the same place
abbrev pub HasPlace : (ℕ → Type 0) → ℕ → Type 0
HasPlace Named x = (y : ℕ) × Named y × (low_half y ≡ low_half x)

-- each place has what it had, or committed, where a named id stands there
abbrev pub Redoes : (ℕ → Type 0) → (ℕ → List ℕ) → (ℕ → List ℕ) → Type 0
Redoes Named old new = (x : ℕ) → (code_in new x ≡ code_in old x) ⊎ ((code_in new x ≡ 1) × HasPlace Named x)

-- a crash leaves of each place what an image of before had, or the map, or committed, where a named id stands there
pub record MayRedo (Named : ℕ → Type 0) (m : ℕ → List ℕ) (c d : Pages) : Type 0 where
  pub each : (x : ℕ) → (code_at d x ≡ code_at c x) ⊎ ((code_at d x ≡ code_in m x) ⊎ ((code_at d x ≡ 1) × HasPlace Named x))

module _ {P O : Type 0} {g : disks.Ghosts P} {r : rules.Ghosts O} where
  -- The named ids become committed, and no other place changes, as far as the calls got. Only a volume that fails refuses
  -- it.
  pub record RedoesBank (Named : ℕ → Type 0) (old new : SlruBank P O g r) (result : Result (Unit {0}) BankRefusal) : Type 0 where
    pub cutoff : cutoff_of new ≡ cutoff_of old
    pub fault : IsErr result → (result ≡ Err DiskFault) × HasRisen (faults_of old) (faults_of new)
    pub count : faults_of old ≤ faults_of new
    pub each : IsTrue g.tells → Redoes Named (pages_of old) (pages_of new)
    pub done : IsTrue g.tells → OnOk result ((y : ℕ) → Named y → code_in (pages_of new) y ≡ 1)
    pub moments : IsTrue g.tells → CrashLeaves (MayRedo Named (pages_of old)) g.images g.moment g.left_at (volume_of old) (volume_of new)
