-- Members and an offset that a session may set, of a multixact that it recorded, and the pages on which they stand.
use Rattle.std.specs.Prelude.{◌≡◌, ◌⊎◌, ℕ, ◌+◌, List, Some, slice_get}
use Rattle.notes.specs.Lists.{at}
use Rattle.tx_events.specs.declared.multi.Member.{Member}
use Rattle.tx_core.specs.declared.entry.Entry.{Entry}
use Rattle.tx_core.specs.declared.entry.Start.{Start}
use Rattle.tx_core.specs.CutsFollow.{IsOffsetGone}
use Rattle.tx_core.specs.Locks.{member_page_in_full, members_lock_of, offset_page, offsets_lock_of}
use Rattle.tx_core.specs.MembersBeforeOffset.{IsRecorded}
use Rattle.tx_core.specs.MultiEntries.{IsOffsetSet}
use Rattle.tx_core.specs.PagesBeforeIds.{WasMade}
use Rattle.multi_makes.specs.Pending.{AreSlotsDone}

-- they stand one behind another among the members of a multixact that the session recorded, from this offset on
pub record AreRecordedAt (lists : List (List Entry)) (n offset : ℕ) (members : List Member) : Type 0 where
  pub multi : ℕ
  pub first : ℕ
  pub all : List Member
  pub recorded : IsRecorded lists n multi first all
  pub skip : ℕ
  pub behind : offset ≡ first + skip
  pub among : (k : ℕ) (member : Member) → slice_get members k ≡ Some member → slice_get all (skip + k) ≡ Some member

-- the page of the member at an offset was made
abbrev pub IsPageMade : Start → List (List Entry) → ℕ → Type 0
IsPageMade start lists offset = WasMade (at lists (members_lock_of start offset)) (member_page_in_full start.base.offset) (member_page_in_full offset)

-- and that of a multixact's offset
abbrev pub IsOffsetPageMade : Start → List (List Entry) → ℕ → Type 0
IsOffsetPageMade start lists multi = WasMade (at lists (offsets_lock_of start multi)) (offset_page start.base.multi) (offset_page multi)

-- the session recorded the multixact, and all its members stand
pub record MayBegin (start : Start) (lists : List (List Entry)) (n multi offset : ℕ) : Type 0 where
  pub members : List Member
  pub recorded : IsRecorded lists n multi offset members
  pub slots : AreSlotsDone start lists offset members

-- the offset was set, or its page was cut
abbrev pub HasBegun : Start → List (List Entry) → ℕ → ℕ → Type 0
HasBegun start lists multi offset = IsOffsetSet start lists multi offset ⊎ IsOffsetGone (at lists (offsets_lock_of start multi)) multi
