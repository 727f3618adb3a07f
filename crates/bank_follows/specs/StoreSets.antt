-- The laws on sets: what a store's call sets is what its entry says.
use Rattle.std.specs.Prelude.{ℕ, ◌≤◌, List, [], ◌∷◌, length, Option, Some, Contains}
use Rattle.tx_events.specs.Ids.{low_half}
use Rattle.store_pages.specs.Layouts.{member_page_of}
use Rattle.tx_events.specs.Pages.{member_place}
use Rattle.slru_bank.specs.Changes.{SetsStates, ShareAPage}
use Rattle.bank_stores.specs.Changes.{SetsMember}
use Rattle.tx_events.specs.Modes.{mode_number}
use Rattle.tx_events.specs.declared.event.By.{By}
use Rattle.tx_events.specs.declared.multi.Member.{Member}
use Rattle.tx_core.specs.declared.entry.Change.TheVariants as changes
use Rattle.tx_core.specs.declared.entry.Kind.TheVariants as kinds
use Rattle.tx_core.specs.declared.entry.Start.{Start}
use Rattle.tx_core.specs.declared.entry.State.{State}
use Rattle.tx_core.specs.CleanStart.{IsNear}
use Rattle.tx_core.specs.Laws.{all_set}
use Rattle.recoverable.specs.MemberImages.{IsNearOffset}
use Rattle.recoverable.specs.XactImages.{code_of}
use Rattle.recoverable.specs.Bytes.{StoredBytes}
use Rattle.bank_follows.specs.Cells.{SetsAsSaid}
use Rattle.bank_follows.specs.Stores.{IsMemberAt, IsXactAt, member_cells, xact_cells}

-- the states of ids of one page
abbrev pub StatesSet : Type 0
StatesSet = (start : Start) (shown : ℕ → Option State) (bank : ℕ) (by caller : By) (ids : List ℕ) (state : State) (old new : ℕ → List ℕ) →
    1 ≤ length ids → ShareAPage ids → ((id : ℕ) → Contains ids id → IsNear start id) → SetsStates ids (length ids) (code_of (Some state)) old new
    → SetsAsSaid (xact_cells start shown) (IsXactAt start bank) (record { by = by; kind = kinds.Set (all_set caller state ids) }) old new

-- one member
abbrev pub MemberSet : Type 0
MemberSet = (start : Start) (shown : ℕ → Option StoredBytes) (bank : ℕ) (by caller : By) (offset : ℕ) (member : Member) (old new : ℕ → List ℕ) →
    IsNearOffset start offset → SetsMember (member_page_of offset) (member_place (low_half offset)) (mode_number member.mode) (low_half member.id) old new
    → SetsAsSaid (member_cells start shown) (IsMemberAt start bank) (record { by = by; kind = kinds.Set (changes.Slot caller offset member ∷ []) }) old new
