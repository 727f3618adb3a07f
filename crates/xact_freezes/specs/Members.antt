-- No page is cut that has members of a multixact that may still be asked for.
use Rattle.std.specs.Prelude.{◌⊎◌, ℕ, ◌+◌, ◌<◌, ◌≤◌, Contains, IsTrue, List, length}
use Rattle.notes.specs.Lists.{at}
use Rattle.tx_events.specs.Base.{IsBase}
use Rattle.tx_events.specs.Ids.{low_half}
use Rattle.tx_events.specs.Multis.{oldest_multi}
use Rattle.tx_events.specs.PageOrder.{Offsets}
use Rattle.tx_events.specs.declared.event.By.{By}
use Rattle.tx_events.specs.declared.multi.Member.{Member}
use Rattle.tx_events.specs.declared.multi.MultiEvent.TheVariants as multis
use Rattle.tx_events.specs.declared.record.Rec.TheVariants as records
use Rattle.tx_events.specs.LifeBase.{AreInOrder}
use Rattle.tx_core.specs.declared.entry.Entry.{Entry}
use Rattle.tx_core.specs.declared.entry.Start.{Start}
use Rattle.tx_core.specs.EngineInvariant.{EngineInvariant}
use Rattle.tx_core.specs.Held.{IsHeld}
use Rattle.tx_core.specs.Locks.{member_page, member_page_in_full, members_lock}
use Rattle.tx_core.specs.MultiEntries.{AreFewMultis, multi_history}

-- a multixact that the life gave
abbrev pub IsGivenAt : List (List Entry) → ℕ → ℕ → List Member → Type 0
IsGivenAt lists multi offset members = (by : By) × Contains (multi_history lists) (multis.Gen by multi offset members)

-- or one that it began with, and of which the pages told
pub record IsOfBase (start : Start) (multi offset : ℕ) (members : List Member) : Type 0 where
  pub told : IsTrue start.told
  pub in_order : AreInOrder start.base start.recorded
  pub recorded : Contains start.recorded (records.Multi multi offset members)
  pub below : multi < start.base.multi

-- In a life of few multixacts no page is cut that has a member of one from the announced oldest one on. A pinned one is.
abbrev pub MembersHeld : Type 0
MembersHeld = (start : Start) (lists : List (List Entry)) (bank multi offset : ℕ) (members : List Member)
    → EngineInvariant start lists → IsBase start.base → AreFewMultis lists
    → IsGivenAt lists multi offset members ⊎ IsOfBase start multi offset members
    → oldest_multi start.base.oldest_multi (multi_history lists) ≤ multi → (n : ℕ) → n < length members
    → IsHeld Offsets 1636 2625286 (member_page_in_full start.base.oldest_offset) (at lists (members_lock bank))
    (member_page (low_half (offset + n)))
