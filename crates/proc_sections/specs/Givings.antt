-- What giving an id needs, and leaves.
use Rattle.std.specs.Prelude.{◌≡◌, ◌≢◌, ℕ, ◌+◌, ◌<◌, ◌≤◌, ◌↔◌, ◌⊎◌, Bool, IsTrue, List, [], ◌∷◌, ◌++◌, Option, None, Some, Result, Ok, Err, vec_len, vec_capacity}
use Rattle.std.specs.List.{AllByRecursion}
use Rattle.tx_events.specs.Limits.{stop_limit, warn_limit}
use Rattle.notes.specs.Lists.{at}
use Rattle.tx_events.specs.declared.event.Event.{Event}
use Rattle.tx_events.specs.declared.record.Counters.{Counters}
use Rattle.tx_events.specs.declared.refusal.Refusal.{Refusal}
use Rattle.tx_events.specs.declared.refusal.Refusal.TheVariants as refusals
use Rattle.tx_events.specs.Events.{by_of}
use Rattle.tx_events.specs.History.{next_given}
use Rattle.tx_events.specs.Horizon.{oldest_id}
use Rattle.tx_model.specs.CommandEvents.{giving}
use Rattle.proc_table.specs.declared.answers.Given.{Given}
use Rattle.proc_table.specs.declared.answers.Given.TheVariants as gives
use Rattle.tx_core.specs.declared.entry.Entry.{Entry}
use Rattle.tx_core.specs.declared.entry.Kind.TheVariants as kinds
use Rattle.tx_core.specs.declared.entry.Start.{Start}
use Rattle.tx_core.specs.Entries.{history}
use Rattle.tx_core.specs.Locks.{proc_lock}
use Rattle.tx_core.specs.PagesBeforeIds.{IsTold}
use Rattle.session_levels.specs.declared.session.Session as plain
use Rattle.session_levels.specs.Stands.{last_of}
use Rattle.engine_parts.specs.declared.session.Session.{Session}
use Rattle.engine_parts.specs.declared.session.Unlinked.{Unlinked}
use Rattle.engine_parts.specs.Holds.{Knowledge, ProcSection}
use Rattle.engine_parts.specs.Sessions.{by_at, look_by}
use Rattle.engine_parts.specs.Steps.{WentOn}

-- the next id is at or past the stop limit
abbrev pub IsStopIn : Counters → List Event → Refusal → Type 0
IsStopIn base h r =
    (stop_limit (oldest_id base.oldest h) ≤ next_given base.next h)
    × (r ≡ refusals.Stop (next_given base.next h) (stop_limit (oldest_id base.oldest h)))

-- a given id, where its parent is still to be recorded
abbrev pub unlinked_of : ℕ → Option ℕ → Option Unlinked
unlinked_of id None = None
unlinked_of id (Some parent) = Some (record { id = id; parent = parent })

-- the event that gives the id to the outermost level that lacks one
abbrev pub naming : ℕ → Session → ℕ → Event
naming n s id = giving (by_at n s.levels.commands) (last_of s.levels.level_ids.items) id

-- the outermost level that lacked an id has this one
pub record IsNamed (s s' : Session) (id : ℕ) : Type 0 where
  pub named : s'.levels.level_ids.items ≡ s.levels.level_ids.items ++ id ∷ []
  pub opened : s'.levels.open_ids.items ≡ s.levels.open_ids.items ++ id ∷ []
  pub unnamed : s'.levels.unnamed + 1 ≡ s.levels.unnamed
  pub registered : s'.levels.registered ≡ s.levels.registered
  pub count : s'.levels.commands ≡ s.levels.commands
  pub stage : s'.stage ≡ s.stage
  pub unlinked : s'.unlinked ≡ unlinked_of id (last_of s.levels.level_ids.items)
  pub making : s'.making ≡ s.making

-- The event stands at the end of a history that went on from the one seen by events of others, at which its warning is
-- right.
pub record IsGivenIn (start : Start) (n : ℕ) (event : Event) (id : ℕ) (warn : Bool)
    (lists more : List (List Entry)) : Type 0 where
  pub rest : List Event
  pub beside : AllByRecursion (λ e. (by_of e).session ≢ n) rest
  pub after : history more ≡ (history lists ++ rest) ++ event ∷ []
  pub late : IsTrue warn ↔ (warn_limit (oldest_id start.base.oldest (history lists ++ rest)) ≤ id)

-- The next id was given. Or its pages weren't told yet, or memory was wanting, or the stop limit is reached; then
-- nothing was given.
abbrev pub GivesId : Start → ℕ → Session → Session → List (List Entry) → List (List Entry) → Result Given Refusal
    → Type 0
GivesId start n s s' lists more (Ok (gives.Id id warn)) =
    WentOn n (naming n s id ∷ []) lists more × IsGivenIn start n (naming n s id) id warn lists more × IsNamed s s' id
GivesId start n s s' lists more (Ok (gives.NeedPage id)) =
    WentOn n [] lists more × (id ≡ next_given start.base.next (history more))
    × (IsTold start (at more proc_lock) id → ⊥) × (s' ≡ s)
GivesId start n s s' lists more (Err r) =
    WentOn n [] lists more × (s' ≡ s) × ((r ≡ refusals.Memory) ⊎ IsStopIn start.base (history more) r)

-- the critical section: its entry is the event of the id that was given, or a look
abbrev pub GiveSection : Start → ℕ → Session → Knowledge → Knowledge → Result Given Refusal → Type 0
GiveSection start n s v w (Ok (gives.Id id warn)) =
    ProcSection start (record { by = by_at n s.levels.commands; kind = kinds.Event (naming n s id) }) v w
GiveSection start n s v w (Ok (gives.NeedPage id)) = ProcSection start (look_by n s) v w
GiveSection start n s v w (Err r) = ProcSection start (look_by n s) v w

-- there is room for one id more
pub record HasRoom (s : plain.Session) : Type 0 where
  pub named : vec_len s.level_ids < vec_capacity s.level_ids
  pub opened : vec_len s.open_ids < vec_capacity s.open_ids
