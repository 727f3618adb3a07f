-- The multixacts that a session was given: those that are done, and one that it may still be making. What it knows of
-- them stays while others go on.
use Rattle.std.specs.Prelude.{◌≡◌, ◌⊎◌, ℕ, ◌+◌, ◌<◌, ◌≤◌, ◌==◌, Bool, true, false, List, Option, Some, Contains, slice_get}
use Rattle.std.specs.List.{filter}
use Rattle.notes.specs.Lists.{Knows, at}
use Rattle.tx_events.specs.After.{ids_of}
use Rattle.tx_events.specs.History.{next_given}
use Rattle.tx_events.specs.Ids.{IsFullId}
use Rattle.tx_events.specs.Multis.{AreMembers, multi_by, next_made, oldest_multi, pins}
use Rattle.tx_events.specs.declared.multi.Member.{Member}
use Rattle.tx_events.specs.declared.multi.MultiEvent.{MultiEvent}
use Rattle.tx_events.specs.declared.record.Rec.TheVariants as records
use Rattle.tx_core.specs.declared.entry.Entry.{Entry}
use Rattle.tx_core.specs.declared.entry.Start.{Start}
use Rattle.tx_core.specs.CutsFollow.{IsMemberGone, IsOffsetGone}
use Rattle.tx_core.specs.EngineInvariant.{EngineInvariant}
use Rattle.tx_core.specs.Entries.{IsAppended, history, session_of}
use Rattle.tx_core.specs.Locks.{members_lock_of, offsets_lock_of}
use Rattle.tx_core.specs.MultiEntries.{IsOffsetSet, IsSlotSet, multi_history}
use Rattle.tx_core.specs.RecordsFollow.{IsGenOf}
use Rattle.tx_core.specs.RecordsOnce.{HasNoMulti}

abbrev pub is_multi_of : ℕ → MultiEvent → Bool
is_multi_of n e = (multi_by e).session == n

-- a session's events of multixacts
abbrev pub own_multis : ℕ → List (List Entry) → List MultiEvent
own_multis n lists = filter (is_multi_of n) (multi_history lists)

-- the member at an offset was set, or its page was cut
abbrev pub IsSlotDone : Start → List (List Entry) → ℕ → Member → Type 0
IsSlotDone start lists offset member =
    IsSlotSet start lists offset member ⊎ IsMemberGone (at lists (members_lock_of start offset)) offset

-- the record of the session's multixact stands, each of its members, and its offset; or their pages were cut
pub record IsMultiDone (start : Start) (lists : List (List Entry)) (n multi offset : ℕ) (members : List Member) : Type 0 where
  pub appended : IsAppended lists n (records.Multi multi offset members)
  pub slots : (k : ℕ) (member : Member) → slice_get members k ≡ Some member → IsSlotDone start lists (offset + k) member
  pub begins : IsOffsetSet start lists multi offset ⊎ IsOffsetGone (at lists (offsets_lock_of start multi)) multi

-- each multixact that the session was given is done, but one that may be pending
abbrev pub AreMultisDone : Start → List (List Entry) → ℕ → Option ℕ → Type 0
AreMultisDone start lists n pending =
    (multi offset : ℕ) (members : List Member) → IsGenOf lists n multi offset members
    → IsMultiDone start lists n multi offset members ⊎ (pending ≡ Some multi)

-- The multixact that the session makes: it was given with these members, which are full ids that were given. Its record
-- stands exactly where it is told so.
pub record IsMaking (start : Start) (lists : List (List Entry)) (n multi offset : ℕ) (members : List Member) (logged : Bool)
    : Type 0 where
  pub given : IsGenOf lists n multi offset members
  pub fit : AreMembers members
  pub full : (id : ℕ) → Contains (ids_of members) id → IsFullId id
  pub before : (id : ℕ) → Contains (ids_of members) id → id < next_given start.base.next (history lists)
  pub recorded : logged ≡ true → IsAppended lists n (records.Multi multi offset members)
  pub unrecorded : logged ≡ false → HasNoMulti lists n multi

-- ---- while others go on

-- a session's own events of multixacts are those that it has seen
abbrev pub OwnMultisStay : Type 0
OwnMultisStay = (start : Start) (n : ℕ) (seen lists : List (List Entry)) → EngineInvariant start lists
    → Knows session_of n seen lists → own_multis n lists ≡ own_multis n seen

-- it pins what it pinned
abbrev pub PinsStay : Type 0
PinsStay = (start : Start) (n multi : ℕ) (seen lists : List (List Entry)) → EngineInvariant start lists
    → Knows session_of n seen lists → Contains (pins (multi_history seen)) (n, multi)
    → Contains (pins (multi_history lists)) (n, multi)

-- what is pinned is one from the announced oldest on, and was given
abbrev pub PinsHold : Type 0
PinsHold = (start : Start) (lists : List (List Entry)) (n multi : ℕ) → EngineInvariant start lists
    → Contains (pins (multi_history lists)) (n, multi)
    → (oldest_multi start.base.oldest_multi (multi_history lists) ≤ multi)
    × (multi < next_made start.base.multi (multi_history lists))

-- what is done stays done, and the session was given no other
abbrev pub DoneStays : Type 0
DoneStays = (start : Start) (n : ℕ) (pending : Option ℕ) (seen lists : List (List Entry)) → EngineInvariant start lists
    → Knows session_of n seen lists → AreMultisDone start seen n pending → AreMultisDone start lists n pending

-- and it makes what it made
abbrev pub MakingStays : Type 0
MakingStays = (start : Start) (n multi offset : ℕ) (members : List Member) (logged : Bool) (seen lists : List (List Entry))
    → Knows session_of n seen lists → IsMaking start seen n multi offset members logged
    → IsMaking start lists n multi offset members logged
