-- The laws: one entry of each kind more keeps what a bank's pages and images stand for, in each store.
use Rattle.std.specs.Prelude.{ℕ, ◌+◌, ◌^◌, ◌≤◌, List, Option}
use Rattle.tx_events.specs.Pages.{member_page_in_full, offset_page, subtrans_page, xact_page}
use Rattle.disk_core.specs.Pages.{Pages}
use Rattle.tx_core.specs.declared.entry.Entry.{Entry}
use Rattle.tx_core.specs.declared.entry.Start.{Start}
use Rattle.tx_core.specs.declared.entry.State.{State}
use Rattle.recoverable.specs.MemberImages.{MembersFollow}
use Rattle.recoverable.specs.OffsetImages.{OffsetsFollow}
use Rattle.recoverable.specs.XactImages.{Follows}
use Rattle.recoverable.specs.Bytes.{StoredBytes}
use Rattle.bank_follows.specs.Cells.{ImageShows, IsOnePage, KeepsCalls}
use Rattle.bank_follows.specs.Stores.{IsMemberAt, IsOffsetAt, IsParentAt, IsXactAt, member_cells, offset_cells, parent_cells, xact_cells}

abbrev pub XactKeeps : Type 0
XactKeeps = (start : Start) (shown : ℕ → Option State) (bank : ℕ) → KeepsCalls (xact_cells start shown) (IsXactAt start bank)

abbrev pub ParentsKeep : Type 0
ParentsKeep = (start : Start) (bank : ℕ) → KeepsCalls (parent_cells start) (IsParentAt start bank)

abbrev pub OffsetsKeep : Type 0
OffsetsKeep = (start : Start) (shown : ℕ → Option StoredBytes) (bank : ℕ) → KeepsCalls (offset_cells start shown) (IsOffsetAt start bank)

abbrev pub MembersKeep : Type 0
MembersKeep = (start : Start) (shown : ℕ → Option StoredBytes) (bank : ℕ) → KeepsCalls (member_cells start shown) (IsMemberAt start bank)

-- Images that show a list so are those of which the recovery laws speak.
abbrev pub ImagesFollow : Type 0
ImagesFollow = (start : Start) (bank : ℕ) (es : List Entry) (c : Pages) →
    ((shown : ℕ → Option State) → ImageShows (xact_cells start shown) (IsXactAt start bank) es c → Follows start bank shown es c)
    × ((shown : ℕ → Option StoredBytes) → ImageShows (offset_cells start shown) (IsOffsetAt start bank) es c → OffsetsFollow start bank shown es c)
    × ((shown : ℕ → Option StoredBytes) → ImageShows (member_cells start shown) (IsMemberAt start bank) es c → MembersFollow start bank shown es c)

-- A page that a life makes, of a number up to 2^29 past the base's next one, is the only one of its stored number.
pub record IsOnePageEach (start : Start) (bank : ℕ) : Type 0 where
  pub xact : (shown : ℕ → Option State) (id : ℕ) → start.base.next ≤ id → id ≤ start.base.next + 2 ^ 29 → IsOnePage (xact_cells start shown) (IsXactAt start bank) (xact_page id)
  pub parents : (id : ℕ) → start.base.next ≤ id → id ≤ start.base.next + 2 ^ 29 → IsOnePage (parent_cells start) (IsParentAt start bank) (subtrans_page id)
  pub offsets : (shown : ℕ → Option StoredBytes) (multi : ℕ) → start.base.multi ≤ multi → multi ≤ start.base.multi + 2 ^ 29 → IsOnePage (offset_cells start shown) (IsOffsetAt start bank) (offset_page multi)
  pub members : (shown : ℕ → Option StoredBytes) (offset : ℕ) → start.base.offset ≤ offset → offset ≤ start.base.offset + 2 ^ 29
      → IsOnePage (member_cells start shown) (IsMemberAt start bank) (member_page_in_full offset)

abbrev pub OnePage : Type 0
OnePage = (start : Start) (bank : ℕ) → IsOnePageEach start bank
