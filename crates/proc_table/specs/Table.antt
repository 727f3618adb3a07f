-- What callers see of the table, and what its calls answer.
use Rattle.std.specs.Prelude.{◌≡◌, ℕ, ◌/◌, ◌<◌, ◌≤◌, ◌↔◌, ◌⊎◌, true, IsTrue, List, [], ◌∷◌, ◌++◌, Contains, Result, MatchResult}
use Rattle.std.specs.List.{All, filter}
use Rattle.tx_events.specs.declared.event.By.{By}
use Rattle.tx_events.specs.declared.event.Event.{Event}
use Rattle.tx_events.specs.declared.event.Event.TheVariants as events
use Rattle.tx_events.specs.declared.record.Counters.{Counters}
use Rattle.tx_events.specs.declared.refusal.Refusal.{Refusal}
use Rattle.tx_events.specs.declared.refusal.Refusal.TheVariants as refusals
use Rattle.tx_events.specs.declared.sequence.Memory.{Memory}
use Rattle.tx_events.specs.declared.snapshot.SnapData.{SnapData}
use Rattle.tx_events.specs.Events.{by_of, is_of}
use Rattle.tx_events.specs.History.{next_given}
use Rattle.tx_events.specs.Families.{is_top}
use Rattle.tx_events.specs.Running.{running, open_ids}
use Rattle.tx_events.specs.Limits.{stop_limit, warn_limit}
use Rattle.tx_events.specs.Snapshots.{snapshot_data}
use Rattle.tx_events.specs.Horizon.{oldest_id, oldest_xmin}
use Rattle.tx_events.specs.IdLists.{has}
use Rattle.tx_events.specs.declared.snapshot.SnapData.{SnapData}
use Rattle.proc_table.specs.declared.answers.Given.{Given}
use Rattle.proc_table.specs.declared.answers.Given.TheVariants as gives
use Rattle.proc_table.specs.declared.answers.Asked.{Asked}

-- what a caller sees of the table
pub record Table : Type 0 where
  pub base : Counters
  pub sessions : ℕ
  -- the last page of parents that is made
  pub initialised_up_to : ℕ
  pub events : List Event

-- the page of pg_subtrans on which the id stands, counted in full
abbrev pub page_of : ℕ → ℕ
page_of id = id / 2048

-- the command isn't below those of the session's earlier events
abbrev pub InTurn : By → List Event → Type 0
InTurn by h = All (λ f. (by_of f).command ≤ by.command) (filter (is_of by.session) h)

-- the id that is given next
abbrev pub next_of : Table → ℕ
next_of t = next_given t.base.next t.events

-- the announced oldest id
abbrev pub oldest_of : Table → ℕ
oldest_of t = oldest_id t.base.oldest t.events

abbrev pub xmin_of : Table → ℕ
xmin_of t = oldest_xmin t.base.next t.events

abbrev pub stop_of : Table → ℕ
stop_of t = stop_limit (oldest_of t)

-- what a snapshot holds that is taken now
abbrev pub data_at : Table → SnapData
data_at t = snapshot_data t.base.next t.events

-- an open id of the session that is a top
abbrev pub IsOpenTop : Table → ℕ → ℕ → Type 0
IsOpenTop t session top = Contains (open_ids session t.events) top × (is_top t.events top ≡ true)

-- the event alone is added
pub record Adds (old new : Table) (e : Event) : Type 0 where
  pub events : new.events ≡ old.events ++ e ∷ []
  pub base : new.base ≡ old.base
  pub sessions : new.sessions ≡ old.sessions
  pub initialised_up_to : new.initialised_up_to ≡ old.initialised_up_to

-- what a call answers that gives the next id: tested in this order
abbrev pub IsGiven : Table → Table → (ℕ → Event) → Given → Type 0
IsGiven old new event (gives.NeedPage id) = (id ≡ next_of old) × (old.initialised_up_to < page_of id) × (new ≡ old)
IsGiven old new event (gives.Id id warn) =
    (id ≡ next_of old) × (page_of id ≤ old.initialised_up_to) × (id < stop_of old) × (IsTrue warn ↔ (warn_limit (oldest_of old) ≤ id)) × Adds old new (event id)

abbrev pub IsNotGiven : Table → Table → Refusal → Type 0
IsNotGiven old new r =
    (new ≡ old) × (page_of (next_of old) ≤ old.initialised_up_to) × (((next_of old < stop_of old) × (r ≡ refusals.Memory)) ⊎ ((stop_of old ≤ next_of old) × (r ≡ refusals.Stop (next_of old) (stop_of old))))

abbrev pub Gives : Table → Table → (ℕ → Event) → Result Given Refusal → Type 0
Gives old new event result = MatchResult result (IsGiven old new event) (IsNotGiven old new)

-- the snapshot holds what it is to hold, and its event is added; or memory was wanting
abbrev pub Takes : Table → Table → Event → Result SnapData Memory → Type 0
Takes old new event result = MatchResult result (λ s. (s ≡ data_at old) × Adds old new event) (λ _. new ≡ old)

-- the oldest id isn't raised: it would go back, it would pass the oldest xmin, or memory was wanting
abbrev pub IsNotRaised : Table → ℕ → Refusal → Type 0
IsNotRaised old oldest r =
    ((oldest < oldest_of old) × (r ≡ refusals.Backward (oldest_of old)))
    ⊎ (((oldest_of old ≤ oldest) × (xmin_of old < oldest) × (r ≡ refusals.TooNew (xmin_of old)))
    ⊎ ((oldest_of old ≤ oldest) × (oldest ≤ xmin_of old) × (r ≡ refusals.Memory)))

abbrev pub Raises : Table → Table → By → ℕ → Result (Unit {0}) Refusal → Type 0
Raises old new by oldest result =
    MatchResult result (λ _. (oldest_of old ≤ oldest) × (oldest ≤ xmin_of old) × Adds old new (events.Oldest by oldest)) (λ r. (new ≡ old) × IsNotRaised old oldest r)

-- how an id stands now
pub record IsAsked (old : Table) (x : ℕ) (a : Asked) : Type 0 where
  pub running : a.running ≡ has (running old.events) x
  pub next : a.next ≡ next_of old
  pub oldest : a.oldest ≡ oldest_of old

abbrev pub Asks : Table → Table → By → ℕ → Result Asked Memory → Type 0
Asks old new by x result = MatchResult result (λ a. IsAsked old x a × Adds old new (events.Ask by x)) (λ _. new ≡ old)
