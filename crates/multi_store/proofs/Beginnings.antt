-- Where a multixact may begin, by where it stands.
use Rattle.std.proofs.Common.{◌≡◌, ℕ, ◌<◌, ◌≤◌, List, Some, arith}
use Rattle.tx_events.specs.declared.multi.MultiEvent.{MultiEvent}
use Rattle.tx_events.specs.declared.record.Counters.{Counters}
use Rattle.tx_events.specs.Multis.{BeginsAt, InBase, free_offset, made_at, next_made, oldest_offset}

-- one of the base
pub begins_old : (base : Counters) (h : List MultiEvent) (multi offset : ℕ) → multi < base.multi → base.multi ≤ next_made base.multi h → oldest_offset base.oldest_offset h ≤ offset → offset ≤ base.offset → BeginsAt base (InBase base) h multi offset
begins_old base h multi offset old up from to = record { of_base = λ l. (from, to); of_life = λ l k. absurd (omega arith); of_next = λ e. absurd (omega arith) }

pub old_begins : (base : Counters) (h : List MultiEvent) (multi offset : ℕ) → multi < base.multi → BeginsAt base (InBase base) h multi offset → (oldest_offset base.oldest_offset h ≤ offset) × (offset ≤ base.offset)
old_begins base h multi offset old b = b.of_base old

-- one of this life
pub begins_life : (base : Counters) (h : List MultiEvent) (multi offset : ℕ) → base.multi ≤ multi → multi < next_made base.multi h → made_at multi h ≡ Some offset → BeginsAt base (InBase base) h multi offset
begins_life base h multi offset from to at = record { of_base = λ l. absurd (omega arith); of_life = λ l k. at; of_next = λ e. absurd (omega arith) }

pub life_begins : (base : Counters) (h : List MultiEvent) (multi offset : ℕ) → base.multi ≤ multi → multi < next_made base.multi h → BeginsAt base (InBase base) h multi offset → made_at multi h ≡ Some offset
life_begins base h multi offset from to b = b.of_life from to

-- the next one, and any past it
pub begins_next : (base : Counters) (h : List MultiEvent) (multi offset : ℕ) → base.multi ≤ multi → next_made base.multi h ≤ multi → (multi ≡ next_made base.multi h → offset ≡ free_offset base.offset h) → BeginsAt base (InBase base) h multi offset
begins_next base h multi offset from past at = record { of_base = λ l. absurd (omega arith); of_life = λ l k. absurd (omega arith); of_next = at }
