-- In a life of few ids and multixacts all pages that are made are near those with which it began.
use Rattle.std.specs.Prelude.{◌≡◌, ℕ, ◌+◌, ◌^◌, ◌<◌, ◌≤◌, List, Option, Contains}
use Rattle.tx_events.specs.declared.event.By.{By}
use Rattle.tx_core.specs.declared.entry.Entry.{Entry}
use Rattle.tx_core.specs.declared.entry.Kind.TheVariants as kinds
use Rattle.tx_core.specs.declared.entry.Start.{Start}
use Rattle.tx_core.specs.EngineInvariant.{EngineInvariant}
use Rattle.tx_core.specs.Entries.{AreFewIds}
use Rattle.tx_core.specs.Locks.{members_lock, offsets_lock, subtrans_lock, xact_lock}
use Rattle.tx_core.specs.MultiEntries.{AreFewMultis}
use Rattle.tx_core.specs.Pages.{Store, member_store, offset_store, pages_after, subtrans_store, xact_store}
use Rattle.notes.specs.Lists.{at}

-- the page is that of a number from the first one on, less than 2^29 past it
pub record IsNearPage (page_of : ℕ → ℕ) (first page : ℕ) : Type 0 where
  pub number : ℕ
  pub from : first ≤ number
  pub to : number < first + 2 ^ 29
  pub on : page ≡ page_of number

module _ {I V : Type 0} where
  -- the last page that the list leaves, whatever was shown at first, and each that was made
  pub record IsBankNear (s : Store I V) (first : ℕ) (es : List Entry) : Type 0 where
    pub last : (shown : ℕ → Option V) → IsNearPage s.page_of first (pages_after s first shown es).last
    pub made : (by : By) (page : ℕ) → Contains es (record { by = by; kind = kinds.Zero page })
        → IsNearPage s.page_of first page

-- the banks of this number
pub record AreNear (start : Start) (lists : List (List Entry)) (bank : ℕ) : Type 0 where
  pub xact : AreFewIds lists → IsBankNear xact_store start.base.next (at lists (xact_lock bank))
  pub subtrans : AreFewIds lists → IsBankNear subtrans_store start.base.next (at lists (subtrans_lock bank))
  pub offsets : AreFewMultis lists → IsBankNear offset_store start.base.multi (at lists (offsets_lock bank))
  pub members : AreFewMultis lists → IsBankNear member_store start.base.offset (at lists (members_lock bank))

-- No two pages of a bank that were made are one stored page, and none is the stored page of one past those in use.
abbrev pub MadeNear : Type 0
MadeNear = (start : Start) (lists : List (List Entry)) (bank : ℕ) → EngineInvariant start lists
    → AreNear start lists bank
