-- What a bank of members says of the slots of a page, by the bank's list, in a life of few.
use Rattle.std.specs.Prelude.{◌≡◌, ℕ, ◌+◌, ◌<◌, ◌≤◌, ◌⊎◌, List, [], ◌∷◌, Some, Contains, length, slice_get}
use Rattle.tx_events.specs.Ids.{low_half}
use Rattle.tx_events.specs.declared.event.By.{By}
use Rattle.tx_events.specs.declared.multi.Member.{Member}
use Rattle.tx_events.specs.declared.multi.MultiEvent.TheVariants as multis
use Rattle.tx_events.specs.declared.record.Rec.TheVariants as records
use Rattle.bank_stores.specs.declared.slot.Slot.{Slot}
use Rattle.bank_stores.specs.declared.slot.Slot.TheVariants as found
use Rattle.tx_core.specs.declared.entry.Change.{Change}
use Rattle.tx_core.specs.declared.entry.Change.TheVariants as changes
use Rattle.tx_core.specs.declared.entry.Entry.{Entry}
use Rattle.tx_core.specs.declared.entry.Start.{Start}
use Rattle.tx_core.specs.Locks.{member_page_in_full}
use Rattle.tx_core.specs.MultiEntries.{AreFewMultis, IsSlotSet, multi_history}

-- members are set one behind another, from an offset on
abbrev pub slots_set : By → ℕ → List Member → List Change
slots_set by offset [] = []
slots_set by offset (member ∷ members) = changes.Slot by offset member ∷ slots_set by (offset + 1) members

-- so many offsets from one on share a page, by its number in full
abbrev pub SharePage : ℕ → ℕ → Type 0
SharePage offset count = (k : ℕ) → k < count → member_page_in_full (offset + k) ≡ member_page_in_full offset

-- A multixact that is recorded from before the life has this member at the offset. It is one from the first oldest one
-- on.
pub record IsRecordedMember (start : Start) (offset : ℕ) (member : Member) : Type 0 where
  pub multi : ℕ
  pub first : ℕ
  pub place : ℕ
  pub members : List Member
  pub stands : Contains start.recorded (records.Multi multi first members)
  pub kept : start.base.oldest_multi ≤ multi
  pub among : slice_get members place ≡ Some member
  pub at : first + place ≡ offset

-- a multixact has these members, by its event or by its record from before the life, of one from the first oldest one on
abbrev pub HasMembersFrom : Start → List (List Entry) → ℕ → List Member → Type 0
HasMembersFrom start lists first members =
    ((by : By) × (multi : ℕ) × Contains (multi_history lists) (multis.Gen by multi first members))
    ⊎ ((multi : ℕ) × (start.base.oldest_multi ≤ multi) × Contains start.recorded (records.Multi multi first members))

-- The members of a multixact end at an offset of low half 0. No multixact begins there, so the slot is skipped.
pub record IsGap (start : Start) (lists : List (List Entry)) (offset : ℕ) : Type 0 where
  pub low : low_half offset ≡ 0
  pub first : ℕ
  pub members : List Member
  pub before : HasMembersFrom start lists first members
  pub end : first + length members ≡ offset

-- a slot that was read holds the member that stands there: its mode, and the low half of its id; where one is skipped, none
pub record IsSlotRead (start : Start) (lists : List (List Entry)) (offset : ℕ) (slot : Slot) : Type 0 where
  pub set : (member : Member) → IsSlotSet start lists offset member
      → slot ≡ found.Is (record { number = low_half member.id }) member.mode
  pub recorded : (member : Member) → IsRecordedMember start offset member
      → slot ≡ found.Is (record { number = low_half member.id }) member.mode
  pub gap : IsGap start lists offset → slot ≡ found.Unused

-- these slots were read from an offset on
abbrev pub AreSlotsRead : Start → List (List Entry) → ℕ → List Slot → Type 0
AreSlotsRead start lists offset slots =
    AreFewMultis lists → (k : ℕ) (slot : Slot) → slice_get slots k ≡ Some slot
    → IsSlotRead start lists (offset + k) slot
