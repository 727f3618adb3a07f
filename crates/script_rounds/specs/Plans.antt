-- Where a session's commands stand in a round.
use Rattle.std.specs.Prelude.{◌≡◌, ℕ, ◌*◌, ◌<◌, ◌≤◌, ◌==◌, ◌⊎◌, List, [], Some, true, length, slice_get}
use Rattle.std.specs.List.{All, count_by, filter_map, list_any}
use Rattle.tx_model.specs.declared.command.Command.{Command}
use Rattle.tx_events.specs.Places.{first_seen}
use Rattle.session_lang.specs.declared.script.Item.{Item}
use Rattle.session_lang.specs.Rounds.{is_look, sessions_in, turns_of}
use Rattle.script_rounds.specs.declared.plan.Plan.{Plan}
use Rattle.run_law.specs.Turns.{turns_in}

-- at least half of a round's commands ask of an id or a multixact
abbrev pub MostlyLooks : List Item → Type 0
MostlyLooks round = length round ≤ 2 * count_by is_look round

-- a session's commands at these places of a round
abbrev pub turns_at : ℕ → List Item → List ℕ → List (ℕ × Command)
turns_at session round places = turns_of session (turns_in (filter_map (slice_get round) places))

-- these are the places of the session's commands in the front of a round
pub record HasPlaces (session : ℕ) (round front : List Item) (places : List ℕ) : Type 0 where
  pub commands : turns_at session round places ≡ turns_of session (turns_in front)
  pub count : length places ≡ length (turns_of session (turns_in front))

-- the plan says whose the commands in the front of a round are
pub record IsPlanOf (round front : List Item) (p : Plan) : Type 0 where
  pub sessions : p.sessions.items ≡ first_seen (sessions_in front)
  pub known : All (λ s. s < length p.places.items) p.sessions.items
  pub places : (k : ℕ) (places : List ℕ) → slice_get p.places.items k ≡ Some places → HasPlaces k round front places

-- the plan is of no commands
pub record IsBlank (p : Plan) : Type 0 where
  pub sessions : p.sessions.items ≡ []
  pub places : (k : ℕ) (places : List ℕ) → slice_get p.places.items k ≡ Some places → places ≡ []

-- the plan lists each session that has places
pub record IsListed (p : Plan) : Type 0 where
  pub known : All (λ s. s < length p.places.items) p.sessions.items
  pub listed : (k : ℕ) (places : List ℕ) → slice_get p.places.items k ≡ Some places → (places ≡ []) ⊎ (list_any (λ s. s == k) p.sessions.items ≡ true)
