-- What the taking of a multixact leaves.
use Rattle.std.specs.Prelude.{◌≡◌, ℕ, ◌+◌, ◌<◌, ◌≤◌, ◌↔◌, IsTrue, List, [], ◌∷◌, length, Result, Ok, Err, Some, false}
use Rattle.tx_events.specs.declared.multi.Member.{Member}
use Rattle.tx_events.specs.declared.multi.MultiEvent.{MultiEvent}
use Rattle.tx_events.specs.declared.multi.MultiEvent.TheVariants as events
use Rattle.tx_events.specs.declared.record.Counters.{Counters}
use Rattle.tx_events.specs.declared.refusal.Refusal.{Refusal}
use Rattle.tx_events.specs.declared.refusal.Refusal.TheVariants as refusals
use Rattle.tx_events.specs.Limits.{member_stop, multi_stop_limit, multi_warn_limit}
use Rattle.tx_events.specs.Multis.{IsNextMade, first_member, free_offset, next_made, oldest_multi, oldest_offset}
use Rattle.multi_store.specs.declared.answers.MultiGiven.{MultiGiven}
use Rattle.tx_core.specs.declared.entry.Entry.{Entry}
use Rattle.tx_core.specs.declared.entry.Start.{Start}
use Rattle.tx_core.specs.MultiEntries.{multi_history}
use Rattle.engine_parts.specs.declared.session.Session.{Session}
use Rattle.engine_parts.specs.Sessions.{by_at}
use Rattle.engine_parts.specs.Steps.{WentMulti}
use Rattle.multi_sections.specs.Steps.{IsLast}

abbrev pub taken_event : ℕ → Session → List Member → MultiGiven → MultiEvent
taken_event n s members g = events.Gen (by_at n s.levels.commands) g.multi g.offset members

-- why no multixact was given behind these events: numbers stop, members stop, or else memory was wanting
abbrev pub IsNotTaken : Counters → List MultiEvent → ℕ → Refusal → Type 0
IsNotTaken base h count (refusals.MultiStop next stop) =
    (next ≡ next_made base.multi h) × (stop ≡ multi_stop_limit (oldest_multi base.oldest_multi h)) × (stop ≤ next)
IsNotTaken base h count (refusals.MemberStop next stop) =
    (next ≡ first_member (free_offset base.offset h)) × (stop ≡ member_stop (oldest_offset base.oldest_offset h)) × (stop ≤ next + count)
    × (next_made base.multi h < multi_stop_limit (oldest_multi base.oldest_multi h))
IsNotTaken base h count refusals.Memory =
    (next_made base.multi h < multi_stop_limit (oldest_multi base.oldest_multi h))
    × (first_member (free_offset base.offset h) + count < member_stop (oldest_offset base.oldest_offset h))
IsNotTaken base h count r = ⊥

-- it is the next one, and a warning is told as its number says
pub record IsTaken (base : Counters) (before : List MultiEvent) (members : List Member) (g : MultiGiven) : Type 0 where
  pub next : IsNextMade base before g.multi g.offset members
  pub warn : IsTrue g.warn ↔ (multi_warn_limit (oldest_multi base.oldest_multi before) ≤ g.multi)

abbrev pub Takes : Start → ℕ → Session → List Member → List (List Entry) → List (List Entry) → Result MultiGiven Refusal → Type 0
Takes start n s members lists more (Ok g) =
    WentMulti n (taken_event n s members g ∷ []) lists more
    × (before : List MultiEvent) × IsLast before (taken_event n s members g) more × IsTaken start.base before members g
Takes start n s members lists more (Err r) = WentMulti n [] lists more × IsNotTaken start.base (multi_history more) (length members) r

-- the session makes what it took
abbrev pub session_taken : Session → List Member → Result MultiGiven Refusal → Session
session_taken s members (Ok g) = record s { making = Some (record { multi = g.multi; offset = g.offset; members = members; logged = false }) }
session_taken s members (Err r) = s
