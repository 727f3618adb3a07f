-- What a crash leaves of a bank's volume at each moment since it was opened, by the bank's course.
use Rattle.std.specs.Prelude.{◌≡◌, ℕ, IsTrue, List, ◌++◌}
use Rattle.disk_core.specs.Images.{LeavesOnly}
use Rattle.disk_core.specs.Pages.{Pages}
use Rattle.disk_core.specs.declared.page_disk.PageDisk as disks
use Rattle.notes.specs.Lists.{at}
use Rattle.store_pages.specs.declared.page_rule.PageRule as rules
use Rattle.slru_bank.specs.declared.bank.SlruBank.{SlruBank}
use Rattle.slru_bank.specs.Calls.{volume_of}
use Rattle.tx_events.specs.Base.{IsBase}
use Rattle.tx_core.specs.declared.entry.Entry.{Entry}
use Rattle.tx_core.specs.declared.entry.Start.{Start}
use Rattle.tx_core.specs.CleanMultis.{CleanMembers, CleanOffsets}
use Rattle.tx_core.specs.EngineInvariant.{EngineInvariant}
use Rattle.tx_core.specs.Entries.{AreFewIds}
use Rattle.tx_core.specs.Locks.{members_lock, offsets_lock, xact_lock}
use Rattle.tx_core.specs.MultiEntries.{AreFewMultis}
use Rattle.tx_core.specs.StoredBytes.{HasZeroTails}
use Rattle.recoverable.specs.Whole.{MembersLeft, OffsetsLeft, StatesLeft}
use Rattle.engine_parts.specs.BankCourse.{IsMemberOn, IsOffsetOn, IsOpenedOn, MembersCame, OffsetsCame, member_rack, offset_rack}
use Rattle.engine_parts.specs.Course.{HasCourse, IsOpened}

-- what follows a beginning of the list
abbrev pub FollowsBeginning : (List Entry → Pages → Type 0) → List Entry → Pages → Type 0
FollowsBeginning Follows es c = (before rest : List Entry) × (es ≡ before ++ rest) × Follows before c

module _ {P O : Type 0} {g : disks.Ghosts P} {r : rules.Ghosts O} where
  -- at each moment since the bank was opened
  pub record FollowsThroughout (Opened : SlruBank P O g r → Type 0) (Follows : List Entry → Pages → Type 0) (es : List Entry) (store : SlruBank P O g r) : Type 0 where
    pub opened : SlruBank P O g r
    pub is_opened : Opened opened
    pub each : LeavesOnly g.moment g.left_at (volume_of opened) (volume_of store) (FollowsBeginning Follows es)

module _ {P O : Type 0} (g : disks.Ghosts P) (r : rules.Ghosts O) where
  -- A bank of pg_xact whose course led to its list leaves that, in a life of fewer than 2,900,000 ids.
  abbrev pub CourseFollows : Type 0
  CourseFollows = (start : Start) (bank : ℕ) (lists : List (List Entry)) (store : SlruBank P O g r) → IsTrue g.tells
      → EngineInvariant start lists → AreFewIds lists → HasCourse start bank store (at lists (xact_lock bank))
      → FollowsThroughout (λ opened. IsOpened start bank opened) (StatesLeft start bank) (at lists (xact_lock bank)) store

  -- So a bank of offsets, and one of members, in a life of fewer than 2,900,000 multixacts that began with counters
  -- from which one may start.
  abbrev pub OffsetsCourseFollows : Type 0
  OffsetsCourseFollows = (start : Start) (bank : ℕ) (lists : List (List Entry)) (store : SlruBank P O g r) → IsTrue g.tells
      → EngineInvariant start lists → IsBase start.base → AreFewMultis lists → OffsetsCame start bank store (at lists (offsets_lock bank))
      → FollowsThroughout (λ opened. IsOpenedOn (offset_rack start) (IsOffsetOn start bank) (CleanOffsets start) (λ m. Unit {0}) opened)
      (OffsetsLeft start bank) (at lists (offsets_lock bank)) store

  abbrev pub MembersCourseFollows : Type 0
  MembersCourseFollows = (start : Start) (bank : ℕ) (lists : List (List Entry)) (store : SlruBank P O g r) → IsTrue g.tells
      → EngineInvariant start lists → IsBase start.base → AreFewMultis lists → MembersCame start bank store (at lists (members_lock bank))
      → FollowsThroughout (λ opened. IsOpenedOn (member_rack start) (IsMemberOn start bank) (CleanMembers start) HasZeroTails opened)
      (MembersLeft start bank) (at lists (members_lock bank)) store
