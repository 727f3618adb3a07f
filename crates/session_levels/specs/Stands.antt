-- How a session stands in the history.
use Rattle.std.specs.Prelude.{◌≡◌, ℕ, zero, suc, ◌+◌, ◌≤◌, nat_le, List, [], ◌∷◌, ◌++◌, Option, Some, None, true, false, take, slice_get, map, length, Contains}
use Rattle.std.specs.List.{AllByRecursion, filter, fold, list_any}
use Rattle.tx_events.specs.declared.event.Event.{Event}
use Rattle.tx_events.specs.declared.event.Event.TheVariants as events
use Rattle.tx_events.specs.declared.record.Counters.{Counters}
use Rattle.tx_events.specs.Events.{by_of, is_of, same_name}
use Rattle.tx_events.specs.Families.{is_top}
use Rattle.tx_events.specs.Horizon.{is_live}
use Rattle.tx_events.specs.IdLists.{Ascending}
use Rattle.tx_model.specs.Replies.{most_levels}
use Rattle.tx_events.specs.Running.{open_ids}
use Rattle.tx_events.specs.Savepoints.{is_inside}
use Rattle.tx_events.specs.Snapshots.{snapshot_data}
use Rattle.tx_model.specs.Stance.{Stance}
use Rattle.session_levels.specs.declared.session.RegisteredSnapshot.{RegisteredSnapshot}
use Rattle.session_levels.specs.declared.session.Session.{Session}

-- so many levels without an id
abbrev pub nameless : ℕ → List (Option ℕ)
nameless zero = []
nameless (suc n) = None ∷ nameless n

-- the levels from the transaction down: those with an id stand before those without
abbrev pub levels_of : List ℕ → ℕ → List (Option ℕ)
levels_of named unnamed = map (λ id. Some id) named ++ nameless unnamed

abbrev pub told_of : RegisteredSnapshot → List ℕ × ℕ
told_of k = (k.name, k.command)

-- the session as its lines leave it
abbrev pub stance_of : Session → Stance
stance_of s = record { levels = levels_of s.level_ids.items s.unnamed; snaps = map told_of s.registered.items }

-- the snapshot was taken at its place
pub record IsRegistered (base : Counters) (h : List Event) (session : ℕ) (k : RegisteredSnapshot) : Type 0 where
  pub taken : slice_get h k.place ≡ Some (events.Snap k.name (record { session = session; command = k.command }))
  pub holds : k.snapshot ≡ snapshot_data base.next (take k.place h)

-- a savepoint's id: the ids given in it are the open ones from it on
abbrev pub IsSavepointIn : List Event → List ℕ → ℕ → Type 0
IsSavepointIn h ids id = Contains ids id × (is_top h id ≡ false) × AllByRecursion (λ x. is_inside h id x ≡ nat_le id x) ids

-- the levels' ids are open: the first is the transaction's, the others are savepoints, each inside the one before
abbrev pub Nest : List Event → List ℕ → List ℕ → Type 0
Nest h ids [] = ids ≡ []
Nest h ids (top ∷ savepoints) = (rest : List ℕ) × (ids ≡ top ∷ rest) × (is_top h top ≡ true) × AllByRecursion (IsSavepointIn h ids) savepoints × Ascending (top ∷ savepoints)

-- the session has these levels, ids and snapshots, and its events so far are of commands up to a number
pub record Stands (base : Counters) (h : List Event) (session number : ℕ) (s : Session) : Type 0 where
  pub opened : open_ids session h ≡ s.open_ids.items
  pub ascend : Ascending s.open_ids.items
  pub nest : Nest h s.open_ids.items s.level_ids.items
  pub depth : length s.level_ids.items + s.unnamed ≤ most_levels
  pub turn : AllByRecursion (λ e. (by_of e).command ≤ number) (filter (is_of session) h)
  pub live : (name : List ℕ) → is_live base.next session name h ≡ list_any (λ k. same_name k.name name) s.registered.items
  pub snaps : AllByRecursion (IsRegistered base h session) s.registered.items

-- the session has done nothing yet
abbrev pub IsFresh : Session → Type 0
IsFresh s = (s.commands ≡ 0) × (s.level_ids.items ≡ []) × (s.unnamed ≡ 0) × (s.open_ids.items ≡ []) × (s.registered.items ≡ [])

-- the last of the ids
abbrev pub last_of : List ℕ → Option ℕ
last_of ids = fold (λ _ id. Some id) None ids

-- a level that lacks an id is the transaction, and the session has no id, or it is below an open id
abbrev pub IsParent : ℕ → List Event → Option ℕ → Type 0
IsParent session h None = open_ids session h ≡ []
IsParent session h (Some parent) = Contains (open_ids session h) parent
