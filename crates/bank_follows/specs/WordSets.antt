-- The laws on sets: what a store's call sets is what its entry says.
use Rattle.std.specs.Prelude.{ℕ, List, [], ◌∷◌, Option}
use Rattle.tx_events.specs.Ids.{low_half}
use Rattle.store_pages.specs.Layouts.{word_page_of}
use Rattle.tx_events.specs.Pages.{offset_place, subtrans_place}
use Rattle.slru_bank.specs.ByteRange.{SetsEntry}
use Rattle.tx_events.specs.declared.event.By.{By}
use Rattle.tx_core.specs.declared.entry.Change.TheVariants as changes
use Rattle.tx_core.specs.declared.entry.Kind.TheVariants as kinds
use Rattle.tx_core.specs.declared.entry.Start.{Start}
use Rattle.tx_core.specs.CleanStart.{IsNear}
use Rattle.recoverable.specs.OffsetImages.{IsNearMulti}
use Rattle.recoverable.specs.Bytes.{StoredBytes}
use Rattle.bank_follows.specs.Cells.{SetsAsSaid}
use Rattle.bank_follows.specs.Stores.{IsOffsetAt, IsParentAt, offset_cells, parent_cells}

-- one parent
abbrev pub ParentSet : Type 0
ParentSet = (start : Start) (bank : ℕ) (by caller : By) (id parent : ℕ) (old new : ℕ → List ℕ) →
    IsNear start id → SetsEntry (word_page_of id) (subtrans_place (low_half id)) (low_half parent) old new
    → SetsAsSaid (parent_cells start) (IsParentAt start bank) (record { by = by; kind = kinds.Set (changes.Parent caller id parent ∷ []) }) old new

-- one offset
abbrev pub OffsetSet : Type 0
OffsetSet = (start : Start) (shown : ℕ → Option StoredBytes) (bank : ℕ) (by caller : By) (multi offset : ℕ) (old new : ℕ → List ℕ) →
    IsNearMulti start multi → SetsEntry (word_page_of multi) (offset_place (low_half multi)) (low_half offset) old new
    → SetsAsSaid (offset_cells start shown) (IsOffsetAt start bank) (record { by = by; kind = kinds.Set (changes.Offset caller multi offset ∷ []) }) old new
