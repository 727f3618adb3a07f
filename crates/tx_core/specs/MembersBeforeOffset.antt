-- A multixact's members stand before its offset does, and its record before both.
use Rattle.std.specs.Prelude.{◌≡◌, ℕ, ◌+◌, ◌-◌, ◌≤◌, ◌⊎◌, List, Some, slice_get, Contains}
use Rattle.tx_events.specs.declared.event.By.{By}
use Rattle.tx_events.specs.declared.multi.Member.{Member}
use Rattle.tx_events.specs.declared.multi.MultiEvent.TheVariants as multis
use Rattle.tx_events.specs.declared.record.Rec.TheVariants as records
use Rattle.tx_core.specs.declared.entry.Entry.{Entry}
use Rattle.tx_core.specs.declared.entry.Start.{Start}
use Rattle.tx_core.specs.CutsFollow.{IsMemberGone}
use Rattle.tx_core.specs.Entries.{IsAppended}
use Rattle.tx_core.specs.Lists.{Upheld}
use Rattle.tx_core.specs.Locks.{members_lock_of}
use Rattle.tx_core.specs.MultiEntries.{EachOffset, EachSlot, SetOffset, SetSlot, multi_history, IsSlotSet}
use Rattle.notes.specs.Lists.{at}

-- the multixact was given to the session with these members, and the session appended its record
pub record IsRecorded (lists : List (List Entry)) (session multi offset : ℕ) (members : List Member) : Type 0 where
  pub by : By
  pub own : by.session ≡ session
  pub given : Contains (multi_history lists) (multis.Gen by multi offset members)
  pub appended : IsAppended lists session (records.Multi multi offset members)

-- it is one of the members of a recorded multixact, at its place
pub record SlotOf (lists : List (List Entry)) (slot : SetSlot) : Type 0 where
  pub multi : ℕ
  pub first : ℕ
  pub members : List Member
  pub recorded : IsRecorded lists slot.caller.session multi first members
  pub behind : first ≤ slot.offset
  pub member : slice_get members (slot.offset - first) ≡ Some slot.member

-- it is that of a recorded multixact, and each of its members was set, or lies on a page that was cut
pub record OffsetOf (start : Start) (lists : List (List Entry)) (set : SetOffset) : Type 0 where
  pub members : List Member
  pub recorded : IsRecorded lists set.caller.session set.multi set.offset members
  pub each : (k : ℕ) (member : Member) → slice_get members k ≡ Some member
      → IsSlotSet start lists (set.offset + k) member ⊎ IsMemberGone (at lists (members_lock_of start (set.offset + k))) (set.offset + k)

abbrev pub NeedsSlots : List (List Entry) → ℕ → List Entry → Entry → Type 0
NeedsSlots lists lock before e = EachSlot (SlotOf lists) e

abbrev pub NeedsOffsets : Start → List (List Entry) → ℕ → List Entry → Entry → Type 0
NeedsOffsets start lists lock before e = EachOffset (OffsetOf start lists) e

-- Each member that was set is one of a multixact that was given and recorded. Each offset that was set is that of such a
-- one, all of whose members stand.
pub record MembersBeforeOffset (start : Start) (lists : List (List Entry)) : Type 0 where
  pub slots : Upheld NeedsSlots lists
  pub offsets : Upheld (NeedsOffsets start) lists

-- what a session knows that adds the entry
pub record MaySetMulti (start : Start) (seen : List (List Entry)) (lock : ℕ) (before : List Entry) (e : Entry) : Type 0 where
  pub slots : NeedsSlots seen lock before e
  pub offsets : NeedsOffsets start seen lock before e
