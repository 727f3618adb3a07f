-- What a command says, by its words behind the session's name.
use Rattle.std.specs.Prelude.{ℕ, List, [], ◌∷◌, codes, cond, Result, Ok, Err}
use Rattle.std.specs.Str.{bytes_eq}
use Rattle.tx_model.specs.declared.command.Command.{Command}
use Rattle.tx_model.specs.declared.command.Command.TheVariants as commands
use Rattle.script_lines.specs.declared.kind.Kind.{Kind}
use Rattle.script_lines.specs.declared.kind.Kind.TheVariants as kinds
use Rattle.script_lines.specs.Kinds.{◌>>=◌}
use Rattle.script_lines.specs.Arguments.{none_of, one_of, two_of, name_in, stored_in, id_in, asked_id_in, multi_in}
use Rattle.script_lines.specs.Members.{pairs_in}

-- the words behind a command, in the order of their kinds of fault
abbrev pub alone : Command → List (List ℕ) → Result Command Kind
alone c ws = none_of ws >>= λ _. Ok c

abbrev pub only_name : List (List ℕ) → Result (List ℕ) Kind
only_name ws = one_of ws >>= name_in

unfoldable pub see_in : List (List ℕ) → Result Command Kind
see_in ws = do
  two ← two_of ws
  name ← name_in two.0
  x ← stored_in 0 two.1
  Ok (commands.See name (record { number = x }))

unfoldable pub see_multi_in : List (List ℕ) → Result Command Kind
see_multi_in ws = do
  two ← two_of ws
  name ← name_in two.0
  m ← stored_in 1 two.1
  Ok (commands.SeeMulti name (record { number = m }))

abbrev pub snap_in : List (List ℕ) → Result Command Kind
snap_in ws = only_name ws >>= λ name. Ok (commands.Snap name)

abbrev pub drop_in : List (List ℕ) → Result Command Kind
drop_in ws = only_name ws >>= λ name. Ok (commands.DropSnap name)

abbrev pub status_in : List (List ℕ) → Result Command Kind
status_in ws = one_of ws >>= asked_id_in >>= λ x. Ok (commands.Status x)

abbrev pub did_in : List (List ℕ) → Result Command Kind
did_in ws = one_of ws >>= stored_in 0 >>= λ x. Ok (commands.Did (record { number = x }))

abbrev pub members_in : List (List ℕ) → Result Command Kind
members_in ws = pairs_in ws >>= λ members. Ok (commands.Multi members)

abbrev pub freeze_in : List (List ℕ) → Result Command Kind
freeze_in ws = one_of ws >>= id_in >>= λ x. Ok (commands.Freeze x)

abbrev pub multi_freeze_in : List (List ℕ) → Result Command Kind
multi_freeze_in ws = one_of ws >>= multi_in >>= λ m. Ok (commands.MultiFreeze m)

-- a command whose words are names and numbers, by its own word
unfoldable pub long_command : List ℕ → List (List ℕ) → Result Command Kind
long_command w ws =
    cond (bytes_eq w (codes "snap")) (snap_in ws)
    (cond (bytes_eq w (codes "drop")) (drop_in ws)
    (cond (bytes_eq w (codes "see")) (see_in ws)
    (cond (bytes_eq w (codes "status")) (status_in ws)
    (cond (bytes_eq w (codes "did")) (did_in ws)
    (cond (bytes_eq w (codes "multi")) (members_in ws)
    (cond (bytes_eq w (codes "seemulti")) (see_multi_in ws)
    (cond (bytes_eq w (codes "freeze")) (freeze_in ws)
    (cond (bytes_eq w (codes "multifreeze")) (multi_freeze_in ws)
    (Err kinds.Command)))))))))

-- any command, by its own word
unfoldable pub command_in : List ℕ → List (List ℕ) → Result Command Kind
command_in w ws =
    cond (bytes_eq w (codes "begin")) (alone commands.Begin ws)
    (cond (bytes_eq w (codes "write")) (alone commands.Write ws)
    (cond (bytes_eq w (codes "commit")) (alone commands.Commit ws)
    (cond (bytes_eq w (codes "abort")) (alone commands.Abort ws)
    (cond (bytes_eq w (codes "save")) (alone commands.Save ws)
    (cond (bytes_eq w (codes "release")) (alone commands.Release ws)
    (cond (bytes_eq w (codes "undo")) (alone commands.Undo ws)
    (cond (bytes_eq w (codes "trim")) (alone commands.Trim ws)
    (cond (bytes_eq w (codes "horizon")) (alone commands.Horizon ws) (long_command w ws)))))))))

-- what stands behind the session's name
abbrev pub command_at : List (List ℕ) → Result Command Kind
command_at [] = Err kinds.Command
command_at (w ∷ ws) = command_in w ws
