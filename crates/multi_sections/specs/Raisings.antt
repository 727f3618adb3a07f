-- What a freeze leaves: the next multixact becomes the oldest one at once, an older one is pinned first.
use Rattle.std.specs.Prelude.{◌≡◌, ℕ, ◌<◌, ◌≤◌, List, [], ◌∷◌, Result, Ok, Err}
use Rattle.tx_events.specs.Ids.{low_half}
use Rattle.tx_events.specs.declared.event.By.{By}
use Rattle.tx_events.specs.declared.multi.MultiEvent.{MultiEvent}
use Rattle.tx_events.specs.declared.multi.MultiEvent.TheVariants as events
use Rattle.tx_events.specs.declared.record.Counters.{Counters}
use Rattle.tx_events.specs.declared.refusal.Refusal.{Refusal}
use Rattle.tx_events.specs.declared.refusal.Refusal.TheVariants as refusals
use Rattle.tx_events.specs.Multis.{InBase, IsRaised, next_made, oldest_multi, pin_limit}
use Rattle.multi_store.specs.Generator.{Adds, Generator, IsHeld, free_of, limit_of, next_of, oldest_of}
use Rattle.tx_core.specs.declared.entry.Entry.{Entry}
use Rattle.tx_core.specs.declared.entry.Start.{Start}
use Rattle.tx_core.specs.MultiEntries.{multi_history}
use Rattle.engine_parts.specs.declared.session.Session.{Session}
use Rattle.engine_parts.specs.Sessions.{by_at}
use Rattle.multi_sections.specs.declared.raising.Freezing.{Freezing}
use Rattle.multi_sections.specs.declared.raising.Freezing.TheVariants as freezings
use Rattle.multi_sections.specs.Pinnings.{IsPinned, Pins, hold_event}
use Rattle.engine_parts.specs.Steps.{WentMulti}
use Rattle.multi_sections.specs.Steps.{IsLast}

abbrev pub raise_event : ℕ → Session → ℕ → ℕ → MultiEvent
raise_event n s multi offset = events.Raise (by_at n s.levels.commands) multi offset

-- the event of each way
abbrev pub frozen_event : By → ℕ → Freezing → MultiEvent
frozen_event by multi (freezings.Raised offset) = events.Raise by multi offset
frozen_event by multi (freezings.Pinned h) = events.Hold by h.multi

-- what it leaves of the generator: the next one is raised, an older one is pinned
abbrev pub IsFrozenAs : Generator → Generator → By → ℕ → Freezing → Type 0
IsFrozenAs old new by multi (freezings.Raised offset) =
    (multi ≡ next_of old) × (offset ≡ free_of old) × (oldest_of old ≤ multi) × (multi ≤ limit_of old) × Adds old new (events.Raise by multi offset)
IsFrozenAs old new by multi (freezings.Pinned h) = IsHeld old new by (low_half multi) h × (h.multi ≡ multi)

-- what each way begins with
abbrev pub freezing_event : ℕ → Session → ℕ → Freezing → MultiEvent
freezing_event n s multi (freezings.Raised offset) = raise_event n s multi offset
freezing_event n s multi (freezings.Pinned h) = hold_event n s h

-- why a freeze doesn't begin, or the oldest one isn't raised, behind these events
abbrev pub IsNotFrozen : Counters → List MultiEvent → ℕ → Refusal → Type 0
IsNotFrozen base h multi (refusals.Backward now) = (now ≡ oldest_multi base.oldest_multi h) × (multi < now)
IsNotFrozen base h multi (refusals.Held limit) = (limit ≡ pin_limit base.multi h) × (limit < multi) × (oldest_multi base.oldest_multi h ≤ multi)
IsNotFrozen base h multi refusals.Memory = (oldest_multi base.oldest_multi h ≤ multi) × (multi ≤ next_made base.multi h)
IsNotFrozen base h multi r = ⊥

-- the multixact was raised here, with this offset
pub record IsRaisedBy (start : Start) (n : ℕ) (s : Session) (multi offset : ℕ) (lists more : List (List Entry)) : Type 0 where
  pub went : WentMulti n (raise_event n s multi offset ∷ []) lists more
  pub before : List MultiEvent
  pub last : IsLast before (raise_event n s multi offset) more
  pub raised : IsRaised start.base (InBase start.base) before multi offset

-- The next multixact becomes the oldest one, or an older one is pinned.
abbrev pub StartsFreeze : Start → ℕ → Session → ℕ → List (List Entry) → List (List Entry) → Result Freezing Refusal → Type 0
StartsFreeze start n s multi lists more (Ok (freezings.Raised offset)) =
    (raised : IsRaisedBy start n s multi offset lists more) × (multi ≡ next_made start.base.multi raised.before)
StartsFreeze start n s multi lists more (Ok (freezings.Pinned h)) =
    WentMulti n (hold_event n s h ∷ []) lists more × Pins n multi more × (h.multi ≡ multi)
    × (before : List MultiEvent) × IsLast before (hold_event n s h) more × IsPinned start.base before (low_half multi) h
StartsFreeze start n s multi lists more (Err r) = WentMulti n [] lists more × IsNotFrozen start.base (multi_history more) multi r
