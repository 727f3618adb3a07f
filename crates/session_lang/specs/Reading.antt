-- What holds of the lines that have been read.
use Rattle.std.specs.Prelude.{◌≡◌, ℕ, ◌≤◌, true, List, length, slice_get, slice_index, Some}
use Rattle.std.specs.List.{All, IsDistinct, range_with_len}
use Rattle.tx_events.specs.Base.{IsBase}
use Rattle.tx_events.specs.Events.{same_name}
use Rattle.tx_events.specs.Places.{first_seen}
use Rattle.tx_events.specs.Names.{is_name}
use Rattle.session_lang.specs.declared.script.Item.{Item}
use Rattle.session_lang.specs.declared.script.Script.{Script}
use Rattle.session_lang.specs.Rounds.{IsShort, count_of, rounds_of, sessions_in}

-- the names so far, and how many commands each session has in the round that goes on
pub record HasRead (named : List (List ℕ)) (counts : List ℕ) (before : List Item) : Type 0 where
  pub names : All (λ name. is_name name ≡ true) named
  pub distinct : IsDistinct same_name named
  pub numbered : first_seen (sessions_in before) ≡ range_with_len 0 (length named)
  pub sessions : length named ≤ 64
  pub lengths : length counts ≡ length named
  pub counted : (session : ℕ) → slice_index counts session ≡ count_of session before
  pub short : All IsShort (rounds_of before)

-- no session has the name
abbrev pub IsNew : List (List ℕ) → List ℕ → Type 0
IsNew names name = (session : ℕ) → slice_get names session ≡ Some name → ⊥

-- what holds of every script: it starts from a base, its sessions are numbered in the order in which they first appear, and
-- neither they nor their commands in a round nor its lines are too many
pub record IsSound (s : Script) : Type 0 where
  pub base : IsBase s.base
  pub names : All (λ name. is_name name ≡ true) s.names
  pub distinct : IsDistinct same_name s.names
  pub numbered : first_seen (sessions_in s.items) ≡ range_with_len 0 (length s.names)
  pub sessions : length s.names ≤ 64
  pub commands : All IsShort (rounds_of s.items)
  pub few : length s.items ≤ 16777216
