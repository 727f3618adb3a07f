-- What the pages show when a life begins.
use Rattle.std.specs.Prelude.{◌≡◌, ℕ, ◌+◌, ◌-◌, ◌^◌, ◌<◌, ◌≤◌, ◌⊎◌, Option, Some, None, Contains}
use Rattle.tx_events.specs.Ids.{low_half}
use Rattle.tx_events.specs.Base.{IsBase}
use Rattle.tx_core.specs.declared.entry.Start.{Start}
use Rattle.tx_core.specs.declared.entry.State.{State}
use Rattle.tx_core.specs.declared.entry.State.TheVariants as states

-- Of each stored number one id: up to 2^30 past the base's next one, and 2^32 in all.
abbrev pub first_near : Start → ℕ
first_near start = start.base.next + 2 ^ 30 - 2 ^ 32

pub record IsNear (start : Start) (x : ℕ) : Type 0 where
  pub from : first_near start ≤ x
  pub to : x < first_near start + 2 ^ 32

-- the numbers that come next show nothing
abbrev pub IsClearFrom : {V : Type 0} → ℕ → (ℕ → Option V) → Type 0
IsClearFrom next shown = (x : ℕ) → next ≤ x → x < next + 2 ^ 30 → shown x ≡ None

-- The states that the pages of pg_xact show, as far as ids go. It speaks of the start alone, so no entry can change it;
-- it is a premise of what is said of pages, and no part of what all lists keep.
pub record CleanStart (start : Start) (shown : ℕ → Option State) : Type 0 where
  -- the counters are those of a base, and no id from the next one on is committed
  pub base : IsBase start.base
  pub before : (x : ℕ) → Contains start.committed x → x < start.base.next
  -- from the oldest id on the committed ids show committed, and only they show committed or sub-committed
  pub committed : (x : ℕ) → start.base.oldest ≤ x → Contains start.committed x → shown x ≡ Some states.Committed
  pub only : (x : ℕ) → start.base.oldest ≤ x → x < start.base.next → (shown x ≡ Some states.Committed) ⊎ (shown x ≡ Some states.SubCommitted) → Contains start.committed x
  -- a state that shows committed or sub-committed stands at the place of a committed id
  pub place : (x : ℕ) → IsNear start x → (shown x ≡ Some states.Committed) ⊎ (shown x ≡ Some states.SubCommitted)
      → (y : ℕ) × Contains start.committed y × (low_half y ≡ low_half x)
  pub clean : IsClearFrom start.base.next shown
