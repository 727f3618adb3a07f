-- What the reader finds in a line, and what it takes.
use Rattle.std.specs.Prelude.{◌≡◌, ℕ, ◌≤◌, ◌&&◌, ◌||◌, Bool, cond, List, length, Option, Some, None, codes}
use Rattle.std.specs.Str.{bytes_eq}
use Rattle.report_words.specs.Fits.{AreNames}
use Rattle.report_words.specs.Reading.{◌>>=◌, word_at, number_at}
use Rattle.report_words.specs.declared.unread.Unread.{Unread}
use Rattle.report_words.specs.declared.unread.Unread.TheVariants as unreads
use Rattle.tx_model.specs.declared.report.Step.{Step}
use Rattle.report_text.specs.ReportText.{step_text}
use Rattle.report_read.specs.Item.{Item}
use Rattle.report_read.specs.Item as items
use Rattle.report_read.specs.Grammar.{Follows, item_line, note}
use Rattle.report_read.specs.declared.told.Told.{Told}

-- the name that stands second in the line of an event
unfoldable pub second_word : List (List ℕ) → Option (List ℕ)
second_word ws = do
  first ← word_at ws
  second ← word_at first.1
  Some second.0

-- the name that stands first in the line of a command: a number is behind it, and more
unfoldable pub said_name : List (List ℕ) → Option (List ℕ)
said_name ws = do
  name ← word_at ws
  number ← number_at name.1
  command ← word_at number.1
  Some name.0

abbrev pub is_pending_word : List ℕ → Bool
is_pending_word w = bytes_eq w (codes "commit-pending") || bytes_eq w (codes "multi-pending")

-- the name that stands last in the line of a checkpoint that was refused for a session's sake
unfoldable pub pending_name : List (List ℕ) → Option (List ℕ)
pending_name ws = do
  word ← word_at ws
  arrow ← word_at word.1
  reply ← word_at arrow.1
  name ← word_at reply.1
  cond (bytes_eq word.0 (codes "checkpoint") && is_pending_word reply.0) (Some name.0) None

-- the names, and this one where there is one
abbrev pub note_some : List (List ℕ) → Option (List ℕ) → List (List ℕ)
note_some names None = names
note_some names (Some name) = note names name

-- the names so far
pub record AreFew (names : List (List ℕ)) : Type 0 where
  pub are : AreNames names
  pub few : length names ≤ 64

-- the line may stand, and is taken
pub record IsTaken (t m : Told) (line : List ℕ) : Type 0 where
  pub item : Item
  pub follows : Follows t item m
  pub text : line ≡ item_line m.names item

-- no such line may stand
abbrev pub IsRefused : Unread → Told → List ℕ → Type 0
IsRefused unreads.Form t line = (x : Item) (m : Told) → Follows t x m → line ≡ item_line m.names x → ⊥
IsRefused unreads.Memory t line = Unit {0}

-- the name is none, or one too many
abbrev pub CannotNote : Unread → List (List ℕ) → List ℕ → Type 0
CannotNote unreads.Form names name = AreFew (note names name) → ⊥
CannotNote unreads.Memory names name = Unit {0}

-- no checkpoint and no dump with this line may stand
abbrev pub IsNoStep : Unread → Told → List ℕ → Type 0
IsNoStep unreads.Form t line = (s : Step) (m : Told) → Follows t (items.step s) m → line ≡ step_text m.names s → ⊥
IsNoStep unreads.Memory t line = Unit {0}
