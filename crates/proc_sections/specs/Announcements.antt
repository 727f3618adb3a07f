-- What the announcement of the oldest id leaves.
use Rattle.std.specs.Prelude.{◌≡◌, ℕ, ◌<◌, ◌≤◌, List, [], ◌∷◌, Result, Ok, Err}
use Rattle.tx_events.specs.declared.event.Event.{Event}
use Rattle.tx_events.specs.declared.event.Event.TheVariants as events
use Rattle.tx_events.specs.declared.record.Counters.{Counters}
use Rattle.tx_events.specs.declared.refusal.Refusal.{Refusal}
use Rattle.tx_events.specs.declared.refusal.Refusal.TheVariants as refusals
use Rattle.tx_events.specs.Horizon.{oldest_id, oldest_xmin}
use Rattle.tx_core.specs.declared.entry.Entry.{Entry}
use Rattle.tx_core.specs.declared.entry.Kind.TheVariants as kinds
use Rattle.tx_core.specs.declared.entry.Start.{Start}
use Rattle.tx_core.specs.Entries.{history}
use Rattle.engine_parts.specs.declared.session.Session.{Session}
use Rattle.engine_parts.specs.Holds.{Knowledge, ProcSection}
use Rattle.engine_parts.specs.Sessions.{by_at, look_by}
use Rattle.engine_parts.specs.Steps.{WentOn}

-- the announcement of the session's command
abbrev pub announcement : ℕ → Session → ℕ → Event
announcement n s oldest = events.Oldest (by_at n s.levels.commands) oldest

-- why this id wasn't announced behind this history: it is before the announced one, past the oldest xmin, or else memory
-- was wanting
abbrev pub IsNotAnnounced : Counters → List Event → ℕ → Refusal → Type 0
IsNotAnnounced base h oldest (refusals.Backward now) = (now ≡ oldest_id base.oldest h) × (oldest < now)
IsNotAnnounced base h oldest (refusals.TooNew limit) = (limit ≡ oldest_xmin base.next h) × (limit < oldest)
IsNotAnnounced base h oldest refusals.Memory =
    (oldest_id base.oldest h ≤ oldest) × (oldest ≤ oldest_xmin base.next h)
IsNotAnnounced base h oldest r = ⊥

-- The announcement is the session's only new event. After a refusal nothing was announced.
abbrev pub Announces : {T : Type 0} → Start → ℕ → Session → ℕ → List (List Entry) → List (List Entry)
    → Result T Refusal → Type 0
Announces start n s oldest lists more (Ok done) = WentOn n (announcement n s oldest ∷ []) lists more
Announces start n s oldest lists more (Err r) =
    WentOn n [] lists more × IsNotAnnounced start.base (history more) oldest r

-- the critical section: its entry is the announcement, or a look
abbrev pub AnnounceSection : {T : Type 0} → Start → ℕ → Session → ℕ → Knowledge → Knowledge → Result T Refusal
    → Type 0
AnnounceSection start n s oldest v w (Ok done) = ProcSection start
    (record { by = by_at n s.levels.commands; kind = kinds.Event (announcement n s oldest) }) v w
AnnounceSection start n s oldest v w (Err r) = ProcSection start (look_by n s) v w
