-- What a freeze of a pinned multixact leaves.
use Rattle.std.specs.Prelude.{◌≡◌, ℕ, ◌<◌, ◌≤◌, Bool, Contains, IsTrue, List, [], ◌∷◌, ◌++◌, Option, Result, Ok, Err, drop, length, take}
use Rattle.std.specs.List.{AllByRecursion}
use Rattle.disk_core.specs.declared.log_disk.LogDisk as logs
use Rattle.disk_core.specs.declared.page_disk.PageDisk as disks
use Rattle.hall.specs.declared.hall.Hall.{Hall}
use Rattle.hall.specs.Calls.{start_of, view}
use Rattle.notes.specs.Lists.{Grows}
use Rattle.tx_events.specs.LifeBase.{AreInOrder}
use Rattle.tx_events.specs.Ids.{low_half}
use Rattle.tx_events.specs.Multis.{multi_by, pin_limit}
use Rattle.tx_events.specs.declared.event.By.{By}
use Rattle.tx_events.specs.declared.multi.Member.{Member}
use Rattle.tx_events.specs.declared.multi.MultiEvent.{MultiEvent}
use Rattle.tx_events.specs.declared.multi.MultiEvent.TheVariants as multis
use Rattle.tx_events.specs.declared.record.Rec.TheVariants as records
use Rattle.tx_events.specs.declared.refusal.Lock.TheVariants as locks
use Rattle.tx_events.specs.declared.refusal.Refusal.{Refusal}
use Rattle.tx_events.specs.declared.refusal.Refusal.TheVariants as refusals
use Rattle.multi_store.specs.declared.answers.Held.{Held}
use Rattle.tx_core.specs.declared.entry.Entry.{Entry}
use Rattle.tx_core.specs.declared.entry.Start.{Start}
use Rattle.tx_core.specs.Locks.{offsets_lock}
use Rattle.tx_core.specs.MultiEntries.{AreFewMultis, multi_history}
use Rattle.engine_parts.specs.declared.part.Part.{Part}
use Rattle.engine_parts.specs.declared.session.Caller.{Caller}
use Rattle.engine_parts.specs.Adding.{IsPlain, MayMeet}
use Rattle.engine_parts.specs.Answers.{MetFault}
use Rattle.engine_parts.specs.Sessions.{by_at}
use Rattle.multi_banks.specs.Offsets.{HasNoOffset, IsOffsetFound}
use Rattle.multi_sections.specs.Pinnings.{IsPinned, Pins, unhold_event}
use Rattle.multi_sections.specs.Raisings.{raise_event}
use Rattle.xact_freezes.specs.Visits.{Visited}

-- a volume of offsets failed in this command
abbrev pub IsOffsetsFault : List (List Entry) → By → Refusal → Type 0
IsOffsetsFault lists by (refusals.DiskFault (locks.Offsets bank)) = MetFault lists (offsets_lock bank) by
IsOffsetsFault lists by _ = ⊥

-- What was read of the offset of a multixact, where the pages tell, in a life of few: what stands. And the multixacts
-- that the life began with lie in order.
pub record IsStartRead (tells : Bool) (start : Start) (lists : List (List Entry)) (multi : ℕ) (found : Option ℕ) : Type 0 where
  pub stands : IsTrue tells → AreFewMultis lists → IsOffsetFound start lists multi found
  pub told : IsTrue tells → AreFewMultis lists → IsTrue start.told × AreInOrder start.base start.recorded

-- The session pins the multixact, and this was answered to the pin.
pub record IsHeldSince (start : Start) (n : ℕ) (lists : List (List Entry)) (h : Held) : Type 0 where
  pub pins : Pins n h.multi lists
  pub by : By
  pub before : List MultiEvent
  pub rest : List MultiEvent
  pub split : multi_history lists ≡ before ++ (multis.Hold by h.multi ∷ rest)
  pub pinned : IsPinned start.base before (low_half h.multi) h

-- where the pages tell, a multixact that the life began with is raised with its recorded offset
abbrev pub IsRecordedAs : Bool → Start → List (List Entry) → ℕ → ℕ → Type 0
IsRecordedAs tells start lists multi offset =
    IsTrue tells → AreFewMultis lists → multi < start.base.multi
    → (members : List Member) × Contains start.recorded (records.Multi multi offset members)

-- Why a pinned multixact isn't raised: it begins at no such offset, which can't be where the pages tell, in a life of
-- few; or one that is older is pinned, or memory was wanting.
abbrev pub IsNotRaisedRead : Bool → Start → List (List Entry) → ℕ → Refusal → Type 0
IsNotRaisedRead tells start lists multi (refusals.NotYet told) = (told ≡ multi) × (IsTrue tells → AreFewMultis lists → ⊥)
IsNotRaisedRead tells start lists multi (refusals.Held limit) =
    (limit ≡ pin_limit start.base.multi (multi_history lists)) × (limit < multi)
IsNotRaisedRead tells start lists multi refusals.Memory = Unit {0}
IsNotRaisedRead tells start lists multi r = ⊥

-- at a moment of these the offset of the multixact wasn't recorded
pub record WasUnset (start : Start) (lists more : List (List Entry)) (multi : ℕ) : Type 0 where
  pub seen : List (List Entry)
  pub from : Grows lists seen
  pub upto : Grows seen more
  pub none : HasNoOffset start seen multi

-- at a moment of these the least pin was before the multixact; what the session has of multixacts behind it is of this
-- command
pub record WasHeldBack (start : Start) (by : By) (lists more : List (List Entry)) (multi limit : ℕ) : Type 0 where
  pub place : ℕ
  pub from : length (multi_history lists) ≤ place
  pub upto : place ≤ length (multi_history more)
  pub limit_is : limit ≡ pin_limit start.base.multi (take place (multi_history more))
  pub past : limit < multi
  pub behind : AllByRecursion (λ e. (multi_by e).session ≡ by.session → by.command ≤ (multi_by e).command)
      (drop place (multi_history more))

-- why a pinned multixact isn't announced
abbrev pub IsNotFrozenPinned : Bool → Start → By → List (List Entry) → List (List Entry) → ℕ → Refusal → Type 0
IsNotFrozenPinned tells start by lists more multi (refusals.NotYet told) =
    (told ≡ multi) × (IsTrue tells → AreFewMultis more → WasUnset start lists more multi)
IsNotFrozenPinned tells start by lists more multi (refusals.Held limit) = WasHeldBack start by lists more multi limit
IsNotFrozenPinned tells start by lists more multi (refusals.DiskFault lock) =
    IsOffsetsFault more by (refusals.DiskFault lock)
IsNotFrozenPinned tells start by lists more multi refusals.Memory = Unit {0}
IsNotFrozenPinned tells start by lists more multi r = ⊥

module _ {H L P : Type 0} {l : logs.Ghosts L} {p : disks.Ghosts P} where
  -- what a raise of one whose offset was read leaves
  abbrev pub RaisesRead : Bool → Hall H (Part L P l p) Entry Start → ℕ → Held → Caller L P l p → Caller L P l p
      → Result (Unit {0}) Refusal → Type 0
  RaisesRead tells hall banks h old new (Ok x) =
      (offset : ℕ) × Visited hall banks IsPlain (raise_event old.number old.session h.multi offset ∷ []) old new
      × IsRecordedAs tells (start_of hall) (view new.pass).seen h.multi offset
  RaisesRead tells hall banks h old new (Err r) =
      Visited hall banks IsPlain [] old new × IsNotRaisedRead tells (start_of hall) (view new.pass).seen h.multi r

  -- and a freeze of a pinned one, which is let go
  abbrev pub FreezesPinned : Bool → Hall H (Part L P l p) Entry Start → ℕ → Held → Caller L P l p → Caller L P l p
      → Result (Unit {0}) Refusal → Type 0
  FreezesPinned tells hall banks h old new (Ok x) =
      (offset : ℕ) × Visited hall banks IsPlain
      (raise_event old.number old.session h.multi offset ∷ unhold_event old.number old.session h.multi ∷ []) old new
      × IsRecordedAs tells (start_of hall) (view new.pass).seen h.multi offset
  FreezesPinned tells hall banks h old new (Err r) =
      Visited hall banks (MayMeet r) (unhold_event old.number old.session h.multi ∷ []) old new
      × IsNotFrozenPinned tells (start_of hall) (by_at old.number old.session.levels.commands) (view old.pass).seen
      (view new.pass).seen h.multi r
