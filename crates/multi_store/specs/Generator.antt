-- What callers see of the generator, and what its calls answer.
use Rattle.std.specs.Prelude.{◌≡◌, ℕ, ◌+◌, ◌<◌, ◌≤◌, ◌↔◌, ◌⊎◌, IsTrue, List, [], ◌∷◌, ◌++◌, length, Option, Some, Result, MatchOption, MatchResult}
use Rattle.tx_events.specs.Ids.{next_multi}
use Rattle.tx_events.specs.Nearest.{near_id}
use Rattle.tx_events.specs.declared.event.By.{By}
use Rattle.tx_events.specs.declared.multi.Member.{Member}
use Rattle.tx_events.specs.declared.multi.MultiEvent.{MultiEvent}
use Rattle.tx_events.specs.declared.multi.MultiEvent.TheVariants as events
use Rattle.tx_events.specs.declared.record.Counters.{Counters}
use Rattle.tx_events.specs.declared.refusal.Refusal.{Refusal}
use Rattle.tx_events.specs.declared.refusal.Refusal.TheVariants as refusals
use Rattle.tx_events.specs.Limits.{multi_stop_limit, multi_warn_limit, member_stop}
use Rattle.tx_events.specs.Multis.{next_made, free_offset, first_member, oldest_multi, oldest_offset, pin_limit, made_at, BeginsAt, InBase, multi_counters}
use Rattle.multi_store.specs.declared.answers.Held.{Held}
use Rattle.multi_store.specs.declared.answers.MultiGiven.{MultiGiven}

-- what a caller sees of the generator
pub record Generator : Type 0 where
  pub base : Counters
  pub events : List MultiEvent

-- the multixact that is given next
abbrev pub next_of : Generator → ℕ
next_of g = next_made g.base.multi g.events

-- the next free offset
abbrev pub free_of : Generator → ℕ
free_of g = free_offset g.base.offset g.events

-- where the members of the next multixact begin
abbrev pub start_of : Generator → ℕ
start_of g = first_member (free_of g)

-- the announced oldest multixact and its offset
abbrev pub oldest_of : Generator → ℕ
oldest_of g = oldest_multi g.base.oldest_multi g.events

abbrev pub oldest_offset_of : Generator → ℕ
oldest_offset_of g = oldest_offset g.base.oldest_offset g.events

-- no multixact at or past it is given, and no member reaches the other one
abbrev pub stop_of : Generator → ℕ
stop_of g = multi_stop_limit (oldest_of g)

abbrev pub member_stop_of : Generator → ℕ
member_stop_of g = member_stop (oldest_offset_of g)

-- the least of the next multixact and all pinned ones
abbrev pub limit_of : Generator → ℕ
limit_of g = pin_limit g.base.multi g.events

abbrev pub counters_of : Generator → Counters
counters_of g = multi_counters g.base g.events

-- the event alone is added
pub record Adds (old new : Generator) (e : MultiEvent) : Type 0 where
  pub events : new.events ≡ old.events ++ e ∷ []
  pub base : new.base ≡ old.base

-- the next multixact is given at the next free offset
pub record IsGiven (old new : Generator) (by : By) (members : List Member) (given : MultiGiven) : Type 0 where
  pub multi : given.multi ≡ next_of old
  pub below_stop : given.multi < stop_of old
  pub offset : given.offset ≡ start_of old
  pub below_member_stop : given.offset + length members < member_stop_of old
  pub warn : IsTrue given.warn ↔ (multi_warn_limit (oldest_of old) ≤ given.multi)
  pub adds : Adds old new (events.Gen by given.multi given.offset members)

-- none is given: numbers stop, members stop, or memory was wanting; tested in this order
abbrev pub IsNotGiven : Generator → List Member → Refusal → Type 0
IsNotGiven old members r =
    ((stop_of old ≤ next_of old) × (r ≡ refusals.MultiStop (next_of old) (stop_of old)))
    ⊎ (((next_of old < stop_of old) × (member_stop_of old ≤ start_of old + length members) × (r ≡ refusals.MemberStop (start_of old) (member_stop_of old)))
    ⊎ ((next_of old < stop_of old) × (start_of old + length members < member_stop_of old) × (r ≡ refusals.Memory)))

abbrev pub Gives : Generator → Generator → By → List Member → Result MultiGiven Refusal → Type 0
Gives old new by members result = MatchResult result (IsGiven old new by members) (λ r. (new ≡ old) × IsNotGiven old members r)

-- the multixact that a stored half means, near the next one, where there is one
abbrev pub meant_by : Generator → ℕ → Option ℕ
meant_by g m = near_id (next_of g) m

-- the stored half means this multixact, which is one from the oldest to below the next
pub record IsMeant (g : Generator) (m multi : ℕ) : Type 0 where
  pub near : meant_by g m ≡ Some multi
  pub not_older : oldest_of g ≤ multi
  pub given : multi < next_of g

-- it means none, or one below the oldest
abbrev pub IsTooOld : Generator → ℕ → Type 0
IsTooOld g m = MatchOption (meant_by g m) (Unit {0}) (λ multi. multi < oldest_of g)

-- it means one that isn't given yet
abbrev pub IsFuture : Generator → ℕ → Type 0
IsFuture g m = MatchOption (meant_by g m) ⊥ (λ multi. next_of g ≤ multi)

abbrev pub IsUnknown : Generator → ℕ → Refusal → Type 0
IsUnknown g m r =
    (IsTooOld g m × (r ≡ refusals.MultiTooOld (oldest_of g)))
    ⊎ (IsFuture g m × (r ≡ refusals.MultiFuture (next_of g)))

abbrev pub Means : Generator → ℕ → Result ℕ Refusal → Type 0
Means g m result = MatchResult result (IsMeant g m) (IsUnknown g m)

-- the multixact is pinned, and where its members are is told
pub record IsHeld (old new : Generator) (by : By) (m : ℕ) (held : Held) : Type 0 where
  pub meant : IsMeant old m held.multi
  pub last : IsTrue held.last ↔ (next_multi held.multi ≡ next_of old)
  pub end : held.end ≡ free_of old
  pub start : held.start ≡ made_at held.multi old.events
  pub most : held.most ≡ old.base.offset
  pub adds : Adds old new (events.Hold by held.multi)

-- it isn't pinned: it isn't known, or memory was wanting
abbrev pub IsNotHeld : Generator → ℕ → Refusal → Type 0
IsNotHeld old m r =
    IsUnknown old m r ⊎ (MatchOption (meant_by old m) ⊥ (IsMeant old m) × (r ≡ refusals.Memory))

abbrev pub Holds : Generator → Generator → By → ℕ → Result Held Refusal → Type 0
Holds old new by m result = MatchResult result (IsHeld old new by m) (λ r. (new ≡ old) × IsNotHeld old m r)

-- the multixact begins at this offset
abbrev pub Begins : Generator → ℕ → ℕ → Type 0
Begins g multi offset = BeginsAt g.base (InBase g.base) g.events multi offset

-- it does, where it may become the oldest one
abbrev pub BeginsWhereRaised : Generator → ℕ → ℕ → Type 0
BeginsWhereRaised g multi offset = oldest_of g ≤ multi → multi ≤ limit_of g → Begins g multi offset

-- the oldest multixact isn't raised: it would go back, it would pass a pin or the next one, or memory was wanting
abbrev pub IsNotRaised : Generator → ℕ → Refusal → Type 0
IsNotRaised old multi r =
    ((multi < oldest_of old) × (r ≡ refusals.Backward (oldest_of old)))
    ⊎ (((oldest_of old ≤ multi) × (limit_of old < multi) × (r ≡ refusals.Held (limit_of old)))
    ⊎ ((oldest_of old ≤ multi) × (multi ≤ limit_of old) × (r ≡ refusals.Memory)))

abbrev pub Raises : Generator → Generator → By → ℕ → ℕ → Result (Unit {0}) Refusal → Type 0
Raises old new by multi offset result =
    MatchResult result (λ _. (oldest_of old ≤ multi) × (multi ≤ limit_of old) × Adds old new (events.Raise by multi offset)) (λ r. (new ≡ old) × IsNotRaised old multi r)

-- no counter of a multixact or an offset is lower
pub record CountersRise (old new : Counters) : Type 0 where
  pub multi : old.multi ≤ new.multi
  pub offset : old.offset ≤ new.offset
  pub oldest_multi : old.oldest_multi ≤ new.oldest_multi
  pub oldest_offset : old.oldest_offset ≤ new.oldest_offset
