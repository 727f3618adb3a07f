-- What a command leaves, by how it was answered.
use Rattle.std.specs.Prelude.{ℕ, Bool, true, false, List, [], ◌∷◌, ◌++◌, None}
use Rattle.tx_model.specs.declared.command.Command.{Command}
use Rattle.tx_model.specs.declared.command.Command.TheVariants as commands
use Rattle.tx_model.specs.declared.reply.Reply.{Reply}
use Rattle.tx_model.specs.declared.reply.Reply.TheVariants as replies
use Rattle.tx_model.specs.Stance.{Stance, without_last, without_snap}

abbrev pub is_snapped : Reply → Bool
is_snapped (replies.Snapped lists) = true
is_snapped reply = false

-- a command that gives no ids and was answered `ok`
abbrev pub settled : Stance → Command → Stance
settled s commands.Begin = record s { levels = None ∷ [] }
settled s commands.Save = record s { levels = s.levels ++ None ∷ [] }
settled s commands.Release = record s { levels = without_last s.levels }
settled s commands.Undo = record s { levels = without_last s.levels }
settled s commands.Commit = record s { levels = [] }
settled s commands.Abort = record s { levels = [] }
settled s (commands.DropSnap name) = record s { snaps = without_snap name s.snaps }
settled s command = s

-- one that was answered with a snapshot
abbrev pub snapped : List (List ℕ × ℕ) → ℕ → Command → List (List ℕ × ℕ)
snapped snaps number (commands.Snap name) = snaps ++ (name, number) ∷ []
snapped snaps number command = snaps
