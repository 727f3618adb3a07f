-- What the pages of offsets and members show when a life begins. As in `CleanStart` it speaks of the start alone.
use Rattle.std.specs.Prelude.{◌≡◌, ℕ, ◌+◌, ◌^◌, ◌<◌, ◌≤◌, Contains, IsTrue, List, length, slice_get, Option, Some, None}
use Rattle.tx_events.specs.LifeBase.{AreInOrder}
use Rattle.tx_events.specs.Ids.{IsFullMulti, low_half}
use Rattle.tx_events.specs.declared.multi.Member.{Member}
use Rattle.tx_events.specs.declared.record.Rec.TheVariants as records
use Rattle.tx_core.specs.declared.entry.Start.{Start}
use Rattle.tx_core.specs.CleanStart.{IsClearFrom}
use Rattle.tx_core.specs.StoredBytes.{IsClearBehind, StoredBytes, byte_held, byte_of, slot_bytes}

-- of each stored number one multixact: up to 2^30 past the base's next one, and 2^32 in all
pub record IsNearMulti (start : Start) (multi : ℕ) : Type 0 where
  pub from : start.base.multi + 2 ^ 30 ≤ multi + 2 ^ 32
  pub to : multi < start.base.multi + 2 ^ 30

-- of each stored offset one: up to 2^30 past the base's next free one, and 2^32 in all
pub record IsNearOffset (start : Start) (offset : ℕ) : Type 0 where
  pub from : start.base.offset + 2 ^ 30 ≤ offset + 2 ^ 32
  pub to : offset < start.base.offset + 2 ^ 30

-- what the pages of offsets show when a life begins: of the multixacts from the oldest one on the recorded ones
-- have their offsets, which lie in order, and the others and those that come next have none. The life counts as one whose
-- pages told that.
pub record CleanOffsets (start : Start) (shown : ℕ → Option StoredBytes) : Type 0 where
  pub told : IsTrue start.told
  pub full : (multi offset : ℕ) (members : List Member) → Contains start.recorded (records.Multi multi offset members) → IsFullMulti start.base.multi
  pub before : (multi offset : ℕ) (members : List Member) → Contains start.recorded (records.Multi multi offset members) → multi < start.base.multi
  pub in_order : AreInOrder start.base start.recorded
  pub recorded : (multi offset : ℕ) (members : List Member) → Contains start.recorded (records.Multi multi offset members) → start.base.oldest_multi ≤ multi → (i : ℕ) → i < 4 → byte_held (shown multi) i ≡ byte_of offset i
  pub other : (multi : ℕ) → IsFullMulti multi → start.base.oldest_multi ≤ multi → multi < start.base.multi
      → ((offset : ℕ) (members : List Member) → Contains start.recorded (records.Multi multi offset members) → ⊥) → shown multi ≡ None
  pub clean : IsClearFrom start.base.multi shown

-- What the pages of members show when a life begins: the recorded multixacts from the oldest one on, which lie in order,
-- have their members. No member shows where an offset of low half 0 comes right behind them, nor at the offsets that
-- come next: ids are 0 there, and modes too on later pages.
pub record CleanMembers (start : Start) (shown : ℕ → Option StoredBytes) : Type 0 where
  pub before : (multi offset : ℕ) (members : List Member) → Contains start.recorded (records.Multi multi offset members) → multi < start.base.multi
  pub in_order : AreInOrder start.base start.recorded
  pub recorded : (multi offset k : ℕ) (members : List Member) (member : Member) → Contains start.recorded (records.Multi multi offset members) → start.base.oldest_multi ≤ multi
      → slice_get members k ≡ Some member → (i : ℕ) → i < 5 → byte_held (shown (offset + k)) i ≡ slot_bytes member i
  pub gap : (multi offset : ℕ) (members : List Member) → Contains start.recorded (records.Multi multi offset members) → start.base.oldest_multi ≤ multi
      → low_half (offset + length members) ≡ 0 → (i : ℕ) → i < 4 → byte_held (shown (offset + length members)) i ≡ 0
  pub clean : (x i : ℕ) → start.base.offset ≤ x → x < start.base.offset + 2 ^ 30 → i < 4 → byte_held (shown x) i ≡ 0
  pub behind : IsClearBehind start.base.offset shown
