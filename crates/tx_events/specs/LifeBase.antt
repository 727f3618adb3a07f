-- What a life starts from, and what records make of it.
use Rattle.std.specs.Prelude.{◌≡◌, ℕ, ◌+◌, ◌<◌, ◌≤◌, List, [], ◌∷◌, ◌++◌, length, Bool, true, false, Contains}
use Rattle.std.specs.List.{filter, flat_map}
use Rattle.tx_events.specs.Ids.{IsFullId, low_half, next_multi}
use Rattle.tx_events.specs.declared.multi.Member.{Member}
use Rattle.tx_events.specs.declared.record.Counters.{Counters}
use Rattle.tx_events.specs.declared.record.Rec.{Rec}
use Rattle.tx_events.specs.declared.record.Rec.TheVariants as records
use Rattle.tx_events.specs.After.{after_records, ids_of}
use Rattle.tx_events.specs.Base.{IsBase}
use Rattle.tx_events.specs.Multis.{AreMembers, first_member}

-- the counters, the ids that are committed, and the records of the multixacts
pub record LifeBase : Type 0 where
  pub counters : Counters
  pub committed : List ℕ
  pub recorded : List Rec

abbrev pub committed_by : Rec → List ℕ
committed_by (records.Commit top subs) = top ∷ subs
committed_by _ = []

abbrev pub committed_in : List Rec → List ℕ
committed_in recs = flat_map committed_by recs

abbrev pub is_multi : Rec → Bool
is_multi (records.Multi multi offset members) = true
is_multi _ = false

-- the base that a base and these records give, taken in order
abbrev pub base_after : LifeBase → List Rec → LifeBase
base_after base recs = record {
  counters = after_records base.counters recs;
  committed = base.committed ++ committed_in recs;
  recorded = base.recorded ++ filter is_multi recs;
}

-- The recorded multixacts from the oldest one on lie in the order of their numbers, from the oldest offset to below the
-- next free one, each right behind the one whose number comes before, and the last up to the next free offset. None begins
-- at an offset of low half 0, which is stored for none. Each is recorded with one offset and one list of members, and
-- shares no offset with another. The members are as many as may be given, and their ids are full ones.
pub record AreInOrder (c : Counters) (recorded : List Rec) : Type 0 where
  pub within : (multi offset : ℕ) (members : List Member) → Contains recorded (records.Multi multi offset members) → c.oldest_multi ≤ multi
      → (c.oldest_offset ≤ offset) × (offset + length members ≤ c.offset)
  pub order : (m n x y : ℕ) (ms ns : List Member) → Contains recorded (records.Multi m x ms) → Contains recorded (records.Multi n y ns) → c.oldest_multi ≤ m → m ≤ n → x ≤ y
  pub behind : (m n x y : ℕ) (ms ns : List Member) → Contains recorded (records.Multi m x ms) → Contains recorded (records.Multi n y ns) → c.oldest_multi ≤ m → n ≡ next_multi m
      → y ≡ first_member (x + length ms)
  pub last : (m x : ℕ) (ms : List Member) → Contains recorded (records.Multi m x ms) → c.oldest_multi ≤ m → next_multi m ≡ c.multi → x + length ms ≡ c.offset
  pub stored : (m x : ℕ) (ms : List Member) → Contains recorded (records.Multi m x ms) → c.oldest_multi ≤ m → 1 ≤ low_half x
  pub apart : (m n x y : ℕ) (ms ns : List Member) → Contains recorded (records.Multi m x ms) → Contains recorded (records.Multi n y ns) → c.oldest_multi ≤ m → m < n → x + length ms ≤ y
  pub once : (m x y : ℕ) (ms ns : List Member) → Contains recorded (records.Multi m x ms) → Contains recorded (records.Multi m y ns) → c.oldest_multi ≤ m → (x ≡ y) × (ms ≡ ns)
  pub fit : (m x : ℕ) (ms : List Member) → Contains recorded (records.Multi m x ms) → c.oldest_multi ≤ m → AreMembers ms × ((id : ℕ) → Contains (ids_of ms) id → IsFullId id)

-- each multixact that a base names lies below its counters
abbrev pub AreBelowNext : LifeBase → Type 0
AreBelowNext base = (multi offset : ℕ) (members : List Member) → Contains base.recorded (records.Multi multi offset members)
    → (multi < base.counters.multi) × (offset + length members ≤ base.counters.offset)

-- what a life may start from: its counters are a base, no id or multixact that it names is past them, no id is a special
-- one, and the recorded multixacts lie in order
pub record IsLifeBase (base : LifeBase) : Type 0 where
  pub counters : IsBase base.counters
  pub committed : (x : ℕ) → Contains base.committed x → (3 ≤ x) × (x < base.counters.next)
  pub multis : AreBelowNext base
  pub in_order : AreInOrder base.counters base.recorded

-- the base behind two stretches of records is the one that the second gives from the base behind the first
abbrev pub BasesAdd : Type 0
BasesAdd = (base : LifeBase) (xs ys : List Rec) → base_after base (xs ++ ys) ≡ base_after (base_after base xs) ys
