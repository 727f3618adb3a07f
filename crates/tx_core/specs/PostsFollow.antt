-- The published oldest id and oldest xmin are those of places of the history.
use Rattle.std.specs.Prelude.{◌≡◌, ℕ, ◌≤◌, ◌⊎◌, List, Option, Some, None, Contains, length, take}
use Rattle.std.specs.List.{AllByRecursion, filter_map}
use Rattle.tx_events.specs.declared.event.Event.{Event}
use Rattle.tx_events.specs.Horizon.{oldest_id, oldest_xmin}
use Rattle.tx_events.specs.Ids.{IsXidNumber}
use Rattle.tx_core.specs.declared.entry.Entry.{Entry}
use Rattle.tx_core.specs.declared.entry.Kind.{Kind}
use Rattle.tx_core.specs.declared.entry.Kind.TheVariants as kinds
use Rattle.tx_core.specs.declared.entry.Start.{Start}
use Rattle.tx_core.specs.Entries.{events_in, history}
use Rattle.notes.specs.Lists.{at}
use Rattle.tx_core.specs.Lists.{Upheld}
use Rattle.tx_core.specs.Locks.{oldest_word, xmin_word}

abbrev pub posted_in : Kind → Option ℕ
posted_in (kinds.Post number) = Some number
posted_in _ = None

-- the numbers that a word showed, one after the other
abbrev pub posts : List Entry → List ℕ
posts es = filter_map (λ e. posted_in e.kind) es

-- The number is what was to be shown at a place of the history, and not below what the word showed before. What it shows
-- never falls, so that place is not before those of the earlier ones.
pub record IsFound (shown : List Event → ℕ) (lists : List (List Entry)) (before : List Entry) (number : ℕ) : Type 0 where
  pub place : ℕ
  pub within : place ≤ length (history lists)
  pub found : number ≡ shown (take place (history lists))
  pub rises : AllByRecursion (λ earlier. earlier ≤ number) (posts before)

pub record PostOf (start : Start) (lists : List (List Entry)) (lock : ℕ) (before : List Entry) (number : ℕ) : Type 0 where
  pub oldest : lock ≡ oldest_word start → IsFound (oldest_id start.base.oldest) lists before number
  pub xmin : lock ≡ xmin_word start → IsFound (oldest_xmin start.base.next) lists before number
  pub form : lock ≡ oldest_word start → IsXidNumber number

-- the oldest id was published as this or as a later one, or the life began with such a one
abbrev pub WasShown : Start → List (List Entry) → ℕ → Type 0
WasShown start lists oldest =
    (oldest ≤ start.base.oldest)
    ⊎ ((number : ℕ) × Contains (posts (at lists (oldest_word start))) number × (oldest ≤ number))

-- so is the oldest id at the history's end
abbrev pub IsShown : Start → List (List Entry) → Type 0
IsShown start lists = WasShown start lists (oldest_id start.base.oldest (history lists))

-- An event comes when the oldest id of the events before it was published.
abbrev pub PostIn : Start → List (List Entry) → ℕ → List Entry → Kind → Type 0
PostIn start lists lock before (kinds.Post number) = PostOf start lists lock before number
PostIn start lists lock before (kinds.Event event) =
    WasShown start lists (oldest_id start.base.oldest (events_in before))
PostIn start lists lock before _ = Unit {0}

abbrev pub NeedsPost : Start → List (List Entry) → ℕ → List Entry → Entry → Type 0
NeedsPost start lists lock before e = PostIn start lists lock before e.kind

-- Each number that was published is the oldest id, or the oldest xmin, at a place of the history, and none is published
-- behind one of a later place; as an oldest id it is the number of an id. The oldest id is at most one event behind: who adds one publishes first what it finds.
pub record PostsFollow (start : Start) (lists : List (List Entry)) : Type 0 where
  pub each : Upheld (NeedsPost start) lists
