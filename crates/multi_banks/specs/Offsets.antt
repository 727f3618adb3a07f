-- What a bank of offsets says of a multixact, by the bank's list, in a life of few: else two full pages of one stored
-- number couldn't be told apart.
use Rattle.std.specs.Prelude.{◌≡◌, ◌⊎◌, ℕ, ◌+◌, ◌^◌, ◌<◌, ◌≤◌, IsTrue, List, Option, None, Some, Contains}
use Rattle.tx_events.specs.LifeBase.{AreInOrder}
use Rattle.tx_events.specs.Ids.{IsFullMulti, low_half}
use Rattle.tx_events.specs.declared.multi.Member.{Member}
use Rattle.tx_events.specs.declared.record.Rec.TheVariants as records
use Rattle.tx_core.specs.declared.entry.Entry.{Entry}
use Rattle.tx_core.specs.declared.entry.Start.{Start}
use Rattle.tx_core.specs.MultiEntries.{AreFewMultis, IsOffsetSet}

-- What the pages told of a life's begin: its recorded multixacts lie in order, below its next one, which is a full one.
pub record WasTold (start : Start) : Type 0 where
  pub told : IsTrue start.told
  pub below : (multi offset : ℕ) (members : List Member) → Contains start.recorded (records.Multi multi offset members)
      → multi < start.base.multi
  pub full : (multi offset : ℕ) (members : List Member) → Contains start.recorded (records.Multi multi offset members)
      → IsFullMulti start.base.multi
  pub in_order : AreInOrder start.base start.recorded

-- the offset of a multixact stands: it was set, or is recorded from before the life
abbrev pub HasOffset : Start → List (List Entry) → ℕ → ℕ → Type 0
HasOffset start lists multi offset =
    IsOffsetSet start lists multi offset
    ⊎ ((members : List Member) × Contains start.recorded (records.Multi multi offset members))

-- none was set, and the multixact isn't recorded from before the life
pub record HasNoOffset (start : Start) (lists : List (List Entry)) (multi : ℕ) : Type 0 where
  pub unset : (offset : ℕ) → IsOffsetSet start lists multi offset → ⊥
  pub unrecorded : (offset : ℕ) (members : List Member) → Contains start.recorded (records.Multi multi offset members) → ⊥

-- what was read of a multixact is the low half of the offset that stands; or none does
abbrev pub IsOffsetFound : Start → List (List Entry) → ℕ → Option ℕ → Type 0
IsOffsetFound start lists multi None = HasNoOffset start lists multi
IsOffsetFound start lists multi (Some low) = (offset : ℕ) × (low ≡ low_half offset) × HasOffset start lists multi offset

-- so of each multixact from the life's first oldest one on
abbrev pub IsOffsetRead : Start → List (List Entry) → ℕ → Option ℕ → Type 0
IsOffsetRead start lists multi found =
    IsFullMulti multi → start.base.oldest_multi ≤ multi → multi < start.base.multi + 2 ^ 30 → AreFewMultis lists
    → IsOffsetFound start lists multi found
