-- What a pin leaves, and its end.
use Rattle.std.specs.Prelude.{◌≡◌, ℕ, ◌<◌, ◌≤◌, ◌↔◌, IsTrue, List, [], ◌∷◌, Contains, MatchOption, Option, Some, Result, Ok, Err}
use Rattle.tx_events.specs.Ids.{next_multi}
use Rattle.tx_events.specs.Nearest.{near_id}
use Rattle.tx_events.specs.declared.multi.MultiEvent.{MultiEvent}
use Rattle.tx_events.specs.declared.multi.MultiEvent.TheVariants as events
use Rattle.tx_events.specs.declared.record.Counters.{Counters}
use Rattle.tx_events.specs.declared.refusal.Refusal.{Refusal}
use Rattle.tx_events.specs.declared.refusal.Refusal.TheVariants as refusals
use Rattle.tx_events.specs.Multis.{IsKnown, free_offset, made_at, next_made, oldest_multi, pins}
use Rattle.multi_store.specs.declared.answers.Held.{Held}
use Rattle.tx_core.specs.declared.entry.Entry.{Entry}
use Rattle.tx_core.specs.declared.entry.Start.{Start}
use Rattle.tx_core.specs.MultiEntries.{multi_history}
use Rattle.engine_parts.specs.declared.session.Session.{Session}
use Rattle.engine_parts.specs.Sessions.{by_at}
use Rattle.engine_parts.specs.Steps.{WentMulti}
use Rattle.multi_sections.specs.Steps.{IsLast}

abbrev pub hold_event : ℕ → Session → Held → MultiEvent
hold_event n s h = events.Hold (by_at n s.levels.commands) h.multi

abbrev pub unhold_event : ℕ → Session → ℕ → MultiEvent
unhold_event n s multi = events.Unhold (by_at n s.levels.commands) multi

-- the multixact that a stored number means behind these events, near the next one
abbrev pub meant : Counters → List MultiEvent → ℕ → Option ℕ
meant base h m = near_id (next_made base.multi h) m

-- why a number means none that may be pinned
abbrev pub IsNotPinned : Counters → List MultiEvent → ℕ → Refusal → Type 0
IsNotPinned base h m (refusals.MultiTooOld oldest) =
    (oldest ≡ oldest_multi base.oldest_multi h) × MatchOption (meant base h m) (Unit {0}) (λ multi. multi < oldest)
IsNotPinned base h m (refusals.MultiFuture next) = (next ≡ next_made base.multi h) × MatchOption (meant base h m) ⊥ (λ multi. next ≤ multi)
IsNotPinned base h m refusals.Memory = MatchOption (meant base h m) ⊥ (IsKnown base h)
IsNotPinned base h m r = ⊥

-- It is a known one. Where it is the last one, its members end at the next free offset; of one of the life it is told where
-- they begin; one of the base begins at most at the base's free one.
pub record IsPinned (base : Counters) (before : List MultiEvent) (m : ℕ) (h : Held) : Type 0 where
  pub near : meant base before m ≡ Some h.multi
  pub known : IsKnown base before h.multi
  pub last : IsTrue h.last ↔ (next_multi h.multi ≡ next_made base.multi before)
  pub end : h.end ≡ free_offset base.offset before
  pub start : h.start ≡ made_at h.multi before
  pub most : h.most ≡ base.offset

-- the session pins it
abbrev pub Pins : ℕ → ℕ → List (List Entry) → Type 0
Pins n multi lists = Contains (pins (multi_history lists)) (n, multi)

abbrev pub TakesPin : Start → ℕ → Session → ℕ → List (List Entry) → List (List Entry) → Result Held Refusal → Type 0
TakesPin start n s m lists more (Ok h) =
    WentMulti n (hold_event n s h ∷ []) lists more × Pins n h.multi more
    × (before : List MultiEvent) × IsLast before (hold_event n s h) more × IsPinned start.base before m h
TakesPin start n s m lists more (Err r) = WentMulti n [] lists more × IsNotPinned start.base (multi_history more) m r
