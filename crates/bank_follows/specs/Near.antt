-- Nearness: in a life of few numbers each page that a list made is of a number near the life's first one. What a bank's
-- value stands for is held under this premise, since a section can't see how many numbers its life will give.
use Rattle.std.specs.Prelude.{ℕ, List, Contains, Option}
use Rattle.tx_events.specs.declared.event.By.{By}
use Rattle.notes.specs.Lists.{at}
use Rattle.tx_core.specs.declared.entry.Entry.{Entry}
use Rattle.tx_core.specs.declared.entry.Kind.TheVariants as kinds
use Rattle.tx_core.specs.declared.entry.Start.{Start}
use Rattle.tx_core.specs.declared.entry.State.{State}
use Rattle.tx_core.specs.CleanStart.{IsNear}
use Rattle.tx_core.specs.EngineInvariant.{EngineInvariant}
use Rattle.tx_core.specs.Locks.{member_page_in_full, members_lock, offset_page, offsets_lock, subtrans_lock, subtrans_page, xact_lock, xact_page}
use Rattle.tx_core.specs.PagesBeforeIds.{WasMade}
use Rattle.recoverable.specs.Bytes.{StoredBytes}
use Rattle.recoverable.specs.MemberImages.{IsNearOffset}
use Rattle.recoverable.specs.OffsetImages.{IsNearMulti}
use Rattle.recoverable.specs.Whole.{IsShort}
use Rattle.bank_follows.specs.Cells.{Cells}
use Rattle.bank_follows.specs.Making.{IsGivenPage}
use Rattle.bank_follows.specs.Stores.{member_cells, offset_cells, parent_cells, xact_cells}

abbrev pub AreMadeNear : {I V : Type 0} → Cells I V → List Entry → Type 0
AreMadeNear s es =
    (by : By) (page : ℕ) → Contains es (record { by = by; kind = kinds.Zero page }) → IsGivenPage s page

-- What lies on a page that was made is near: so a store's call may set it.
pub record IsNearOnMade (start : Start) (es : List Entry) : Type 0 where
  pub xact : (shown : ℕ → Option State) (id : ℕ) → AreMadeNear (xact_cells start shown) es
      → WasMade es (xact_page start.base.next) (xact_page id) → IsNear start id
  pub parents : (id : ℕ) → AreMadeNear (parent_cells start) es
      → WasMade es (subtrans_page start.base.next) (subtrans_page id) → IsNear start id
  pub offsets : (shown : ℕ → Option StoredBytes) (multi : ℕ) → AreMadeNear (offset_cells start shown) es
      → WasMade es (offset_page start.base.multi) (offset_page multi) → IsNearMulti start multi
  pub members : (shown : ℕ → Option StoredBytes) (offset : ℕ) → AreMadeNear (member_cells start shown) es
      → WasMade es (member_page_in_full start.base.offset) (member_page_in_full offset) → IsNearOffset start offset

abbrev pub NearOnMade : Type 0
NearOnMade = (start : Start) (es : List Entry) → IsNearOnMade start es

-- And a short life makes no other pages.
pub record MakesNear (start : Start) (lists : List (List Entry)) (bank : ℕ) : Type 0 where
  pub xact : (shown : ℕ → Option State) → AreMadeNear (xact_cells start shown) (at lists (xact_lock bank))
  pub parents : AreMadeNear (parent_cells start) (at lists (subtrans_lock bank))
  pub offsets : (shown : ℕ → Option StoredBytes)
      → AreMadeNear (offset_cells start shown) (at lists (offsets_lock bank))
  pub members : (shown : ℕ → Option StoredBytes)
      → AreMadeNear (member_cells start shown) (at lists (members_lock bank))

abbrev pub ShortMakesNear : Type 0
ShortMakesNear = (start : Start) (lists : List (List Entry)) (bank : ℕ) → EngineInvariant start lists → IsShort lists
    → MakesNear start lists bank
