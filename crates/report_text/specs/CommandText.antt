-- A command's words, as a script and a report have them behind the session.
use Rattle.std.specs.Prelude.{ℕ, List, [], ◌∷◌, codes}
use Rattle.std.specs.Fmt.{decimal}
use Rattle.report_text.specs.MemberText.{pair_words}
use Rattle.tx_model.specs.declared.command.Command.{Command}
use Rattle.tx_model.specs.declared.command.Command.TheVariants as commands

-- a command's first word
unfoldable pub command_word : Command → List ℕ
command_word commands.Begin = codes "begin"
command_word commands.Save = codes "save"
command_word commands.Write = codes "write"
command_word commands.Release = codes "release"
command_word commands.Undo = codes "undo"
command_word commands.Commit = codes "commit"
command_word commands.Abort = codes "abort"
command_word commands.Trim = codes "trim"
command_word commands.Horizon = codes "horizon"
command_word (commands.Snap name) = codes "snap"
command_word (commands.DropSnap name) = codes "drop"
command_word (commands.See name x) = codes "see"
command_word (commands.Status x) = codes "status"
command_word (commands.Did x) = codes "did"
command_word (commands.Multi members) = codes "multi"
command_word (commands.SeeMulti name multi) = codes "seemulti"
command_word (commands.Freeze oldest) = codes "freeze"
command_word (commands.MultiFreeze multi) = codes "multifreeze"

-- and the words behind it
abbrev pub command_rest : Command → List (List ℕ)
command_rest commands.Begin = []
command_rest commands.Save = []
command_rest commands.Write = []
command_rest commands.Release = []
command_rest commands.Undo = []
command_rest commands.Commit = []
command_rest commands.Abort = []
command_rest commands.Trim = []
command_rest commands.Horizon = []
command_rest (commands.Snap name) = name ∷ []
command_rest (commands.DropSnap name) = name ∷ []
command_rest (commands.See name x) = name ∷ decimal x.number ∷ []
command_rest (commands.Status x) = decimal x ∷ []
command_rest (commands.Did x) = decimal x.number ∷ []
command_rest (commands.Multi members) = pair_words members
command_rest (commands.SeeMulti name multi) = name ∷ decimal multi.number ∷ []
command_rest (commands.Freeze oldest) = decimal oldest ∷ []
command_rest (commands.MultiFreeze multi) = decimal multi ∷ []

-- a command's words, as a script and a report have them
abbrev pub command_words : Command → List (List ℕ)
command_words c = command_word c ∷ command_rest c
