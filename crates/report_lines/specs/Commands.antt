-- What the words of a command with its reply say.
use Rattle.std.specs.Prelude.{ℕ, List, [], codes, Bool, true, cond, Option, Some, None}
use Rattle.std.specs.Str.{bytes_eq}
use Rattle.tx_model.specs.declared.command.Command.{Command}
use Rattle.tx_model.specs.declared.command.Command.TheVariants as commands
use Rattle.tx_model.specs.declared.report.Line.{Line}
use Rattle.report_words.specs.Reading.{◌>>=◌, word_at, number_at, full_id, full_multi, name_of, by_at}
use Rattle.report_words.specs.Members.{small, until_arrow, pair_of}
use Rattle.report_words.specs.Replies.{kind_of, reply_at}

-- a command of one word
unfoldable pub plain_command : List ℕ → Option Command
plain_command w =
    cond (bytes_eq w (codes "begin")) (Some commands.Begin)
    (cond (bytes_eq w (codes "save")) (Some commands.Save)
    (cond (bytes_eq w (codes "write")) (Some commands.Write)
    (cond (bytes_eq w (codes "release")) (Some commands.Release)
    (cond (bytes_eq w (codes "undo")) (Some commands.Undo)
    (cond (bytes_eq w (codes "commit")) (Some commands.Commit)
    (cond (bytes_eq w (codes "abort")) (Some commands.Abort)
    (cond (bytes_eq w (codes "trim")) (Some commands.Trim)
    (cond (bytes_eq w (codes "horizon")) (Some commands.Horizon) None))))))))

-- a command that names a snapshot, and the words behind it
unfoldable pub named_command : List ℕ → List ℕ → List (List ℕ) → Option (Command × List (List ℕ))
named_command w word ws = name_of word >>= λ name.
    cond (bytes_eq w (codes "snap")) (Some (commands.Snap name, ws))
    (cond (bytes_eq w (codes "drop")) (Some (commands.DropSnap name, ws))
    (cond (bytes_eq w (codes "see")) (number_at ws >>= λ n. small n.0 >>= λ x. Some (commands.See name (record { number = x }), n.1))
    (cond (bytes_eq w (codes "seemulti")) (number_at ws >>= λ n. small n.0 >>= λ x. Some (commands.SeeMulti name (record { number = x }), n.1)) None)))

-- a command with a number
unfoldable pub number_command : List ℕ → ℕ → Option Command
number_command w n =
    cond (bytes_eq w (codes "status")) (full_id n >>= λ id. Some (commands.Status id))
    (cond (bytes_eq w (codes "did")) (small n >>= λ x. Some (commands.Did (record { number = x })))
    (cond (bytes_eq w (codes "freeze")) (full_id n >>= λ id. Some (commands.Freeze id))
    (cond (bytes_eq w (codes "multifreeze")) (full_multi n >>= λ multi. Some (commands.MultiFreeze multi)) None)))

abbrev pub is_named : List ℕ → Bool
is_named w = cond (bytes_eq w (codes "snap")) true (cond (bytes_eq w (codes "drop")) true (cond (bytes_eq w (codes "see")) true (bytes_eq w (codes "seemulti"))))

-- a command with words behind it
unfoldable pub long_command : List ℕ → List (List ℕ) → Option (Command × List (List ℕ))
long_command w ws =
    cond (bytes_eq w (codes "multi")) (until_arrow pair_of [] ws >>= λ p. Some (commands.Multi p.0, p.1))
    (cond (is_named w) (word_at ws >>= λ name. named_command w name.0 name.1)
    (number_at ws >>= λ n. number_command w n.0 >>= λ c. Some (c, n.1)))

abbrev pub or_long : Option Command → List (List ℕ) → Option (Command × List (List ℕ)) → Option (Command × List (List ℕ))
or_long (Some c) ws o = Some (c, ws)
or_long None ws o = o

-- a command, and the words behind it
unfoldable pub command_at : List (List ℕ) → Option (Command × List (List ℕ))
command_at ws = do
  w ← word_at ws
  or_long (plain_command w.0) w.1 (long_command w.0 w.1)

-- a command's line
unfoldable pub line_at : List (List ℕ) → List (List ℕ) → Option Line
line_at names ws = do
  by ← by_at names ws
  c ← command_at by.1
  arrow ← word_at c.1
  reply ← reply_at (kind_of c.0) arrow.1
  Some (record { by = by.0; command = c.0; reply = reply })
