-- The bytes of a page of members past its last slot stay 0.
use Rattle.std.specs.Prelude.{ℕ, ◌<◌, Bool, List}
use Rattle.disk_core.specs.Pages.{Pages, zero_page}
use Rattle.tx_events.specs.Pages.{members_per_page}
use Rattle.slru_bank.specs.Bank.{PutsPage}
use Rattle.slru_bank.specs.Crash.{CrashLeaves, IsMixture, IsMixtureOrGone, SameMap}
use Rattle.slru_bank.specs.Removal.{MayDrop}
use Rattle.bank_stores.specs.Changes.{SetsMember, TrimsMembers}
use Rattle.recoverable.specs.Bytes.{HasZeroTails, ImageHasZeroTails}
use Rattle.bank_follows.specs.Moments.{Throughout}

-- what a call does to the map keeps them
pub record MapKeepsTails (old new : ℕ → List ℕ) : Type 0 where
  pub same : SameMap old new → HasZeroTails old → HasZeroTails new
  pub makes : (page : ℕ) → PutsPage page zero_page old new → HasZeroTails old → HasZeroTails new
  pub sets : (page place byte number : ℕ) → SetsMember page place byte number old new → HasZeroTails old
      → HasZeroTails new
  pub trims : (page place : ℕ) → place < members_per_page → TrimsMembers page place old new → HasZeroTails old
      → HasZeroTails new
  pub drops : (gone : ℕ → Bool) → MayDrop gone old new → HasZeroTails old → HasZeroTails new

module _ {D : Type 0} (images : D → Pages → Type 0) (moment : D → ℕ) (left_at : D → ℕ → Pages → Type 0) where
  -- and what it leaves of the images, at every moment
  pub record KeepsTails : Type 0 where
    pub map : (old new : ℕ → List ℕ) → MapKeepsTails old new
    pub calls : (m : ℕ → List ℕ) (d0 d1 : D) → HasZeroTails m
        → ((c : Pages) → left_at d0 (moment d0) c → images d0 c) → ((c : Pages) → images d0 c → ImageHasZeroTails c)
        → CrashLeaves (IsMixture m m) images moment left_at d0 d1
        → Throughout images moment left_at ImageHasZeroTails d0 d1
    pub removes : (gone : ℕ → Bool) (m : ℕ → List ℕ) (d0 d1 : D) → HasZeroTails m
        → ((c : Pages) → left_at d0 (moment d0) c → images d0 c) → ((c : Pages) → images d0 c → ImageHasZeroTails c)
        → CrashLeaves (IsMixtureOrGone gone m m) images moment left_at d0 d1
        → Throughout images moment left_at ImageHasZeroTails d0 d1
    -- one run of calls after another
    pub joins : (d0 d1 d2 : D) → Throughout images moment left_at ImageHasZeroTails d0 d1
        → Throughout images moment left_at ImageHasZeroTails d1 d2
        → Throughout images moment left_at ImageHasZeroTails d0 d2
