-- The commands of a script, round by round.
use Rattle.std.specs.Prelude.{ℕ, ◌≤◌, Bool, false, true, List, [], ◌∷◌, ◌++◌, Option, Some, None, ◌==◌, get_or, length}
use Rattle.std.specs.List.{filter, filter_map}
use Rattle.tx_model.specs.declared.command.Command.{Command}
use Rattle.tx_model.specs.declared.command.Command.TheVariants as commands
use Rattle.tx_model.specs.declared.report.How.{How}
use Rattle.tx_model.specs.Asked as asked
use Rattle.tx_model.specs.Asked.{Asked}
use Rattle.session_lang.specs.declared.script.Between.{Between}
use Rattle.session_lang.specs.declared.script.Between.TheVariants as betweens
use Rattle.session_lang.specs.declared.script.Item.{Item}
use Rattle.session_lang.specs.declared.script.Item.TheVariants as items

abbrev pub session_of : Item → Option ℕ
session_of (items.Run session command) = Some session
session_of _ = None

-- a command that asks of an id or a multixact, and gives none
abbrev pub looks : Command → Bool
looks (commands.See name x) = true
looks (commands.SeeMulti name multi) = true
looks (commands.Status x) = true
looks (commands.Did x) = true
looks _ = false

abbrev pub is_look : Item → Bool
is_look (items.Run session command) = looks command
is_look _ = false

abbrev pub crash_in : Item → Option How
crash_in (items.Crash how) = Some how
crash_in _ = None

-- the session of each command, in order
abbrev pub sessions_in : List Item → List ℕ
sessions_in script = filter_map session_of script

-- commands are a round where there are any
abbrev pub round_of : List (ℕ × Command) → List (List (ℕ × Command))
round_of [] = []
round_of (t ∷ turns) = (t ∷ turns) ∷ []

-- a directive ends the round of the commands before it
abbrev pub rounds_from : List (ℕ × Command) → List Item → List (List (ℕ × Command))
rounds_from turns [] = round_of turns
rounds_from turns (items.Run session command ∷ script) = rounds_from (turns ++ (session, command) ∷ []) script
rounds_from turns (_ ∷ script) = round_of turns ++ rounds_from [] script

abbrev pub rounds_of : List Item → List (List (ℕ × Command))
rounds_of script = rounds_from [] script

-- a round is asked for where it has commands
abbrev pub asked_round : List (ℕ × Command) → List Asked
asked_round [] = []
asked_round (t ∷ turns) = asked.round (t ∷ turns) ∷ []

-- what a directive asks for between two rounds
abbrev pub asked_in : Item → List Asked
asked_in (items.Dump what at size) = asked.dump what at size ∷ []
asked_in items.Checkpoint = asked.checkpoint ∷ []
asked_in _ = []

-- what is asked for at a place: nothing behind the last item
abbrev pub asked_at : List Item → ℕ → List Asked
asked_at script place = asked_in (get_or script place items.Round)

-- so as it is looked up
abbrev pub asked_by : Option Between → List Asked
asked_by None = []
asked_by (Some betweens.Checkpoint) = asked.checkpoint ∷ []
asked_by (Some (betweens.Dump dump)) = asked.dump dump.what dump.at dump.length ∷ []

-- what a life of the script is asked for, in order
abbrev pub asked_from : List (ℕ × Command) → List Item → List Asked
asked_from turns [] = asked_round turns
asked_from turns (items.Run session command ∷ script) = asked_from (turns ++ (session, command) ∷ []) script
asked_from turns (directive ∷ script) = asked_round turns ++ (asked_in directive ++ asked_from [] script)

abbrev pub asked_of : List Item → List Asked
asked_of script = asked_from [] script

-- the commands since the last directive
abbrev pub open_from : List (ℕ × Command) → List Item → List (ℕ × Command)
open_from turns [] = turns
open_from turns (items.Run session command ∷ script) = open_from (turns ++ (session, command) ∷ []) script
open_from turns (_ ∷ script) = open_from [] script

abbrev pub open_round : List Item → List (ℕ × Command)
open_round script = open_from [] script

-- a session's commands in a round
abbrev pub turns_of : ℕ → List (ℕ × Command) → List (ℕ × Command)
turns_of session turns = filter (λ t. t.0 == session) turns

-- how many commands a session has in the round that goes on
abbrev pub count_of : ℕ → List Item → ℕ
count_of session before = length (turns_of session (open_round before))

-- each session has at most 100,000 commands in a round
abbrev pub IsShort : List (ℕ × Command) → Type 0
IsShort turns = (session : ℕ) → length (turns_of session turns) ≤ 100000
