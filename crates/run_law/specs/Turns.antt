-- The commands of a script, round by round, and which scripts a life can run.
use Rattle.std.specs.Prelude.{◌≡◌, ℕ, ◌<◌, ◌≤◌, ◌^◌, ◌⊎◌, Bool, true, false, List, [], ◌∷◌, ◌++◌, Option, Some, None, length}
use Rattle.std.specs.List.{All, count_by, filter_map}
use Rattle.tx_model.specs.declared.command.Command.{Command}
use Rattle.tx_model.specs.declared.command.Command.TheVariants as commands
use Rattle.tx_model.specs.declared.report.DumpOf.{DumpOf}
use Rattle.tx_model.specs.declared.report.DumpOf.TheVariants as dumps
use Rattle.tx_events.specs.Base.{IsBase}
use Rattle.session_lang.specs.declared.script.Item.{Item}
use Rattle.session_lang.specs.declared.script.Item.TheVariants as items
use Rattle.session_lang.specs.declared.script.Script.{Script}
use Rattle.session_lang.specs.Plain.{IsDump, IsInRange}

-- the commands that the run has
abbrev pub has_command : Command → Bool
has_command commands.Begin = true
has_command commands.Save = true
has_command commands.Write = true
has_command commands.Release = true
has_command commands.Undo = true
has_command commands.Commit = true
has_command commands.Abort = true
has_command commands.Horizon = true
has_command (commands.Snap name) = true
has_command (commands.DropSnap name) = true
has_command (commands.See name x) = true
has_command (commands.Status x) = true
has_command (commands.Did x) = true
has_command (commands.Freeze oldest) = true
has_command commands.Trim = true
has_command (commands.Multi members) = true
has_command (commands.SeeMulti name multi) = true
has_command (commands.MultiFreeze multi) = true

abbrev pub turn_in : Item → Option (ℕ × Command)
turn_in (items.Run session command) = Some (session, command)
turn_in _ = None

abbrev pub turns_in : List Item → List (ℕ × Command)
turns_in script = filter_map turn_in script

-- whether a command may take a new number: it makes a level, which may be given an id, or a multixact
abbrev pub takes_number : Command → Bool
takes_number commands.Begin = true
takes_number commands.Save = true
takes_number (commands.Multi members) = true
takes_number command = false

-- how many of its commands do
abbrev pub takers_in : List Item → ℕ
takers_in script = count_by (λ (t : ℕ × Command). takes_number t.1) (turns_in script)

-- few enough for a life
abbrev pub HasFewTakers : List Item → Type 0
HasFewTakers script = takers_in script < 2900000

abbrev pub is_command : Item → Bool
is_command (items.Run session command) = true
is_command _ = false

-- the round is the commands before the first directive, and the rest stands behind that
pub record IsFirstRound (script round rest : List Item) : Type 0 where
  pub commands : All (λ item. is_command item ≡ true) round
  pub split : ((script ≡ round) × (rest ≡ [])) ⊎ ((directive : Item) × (is_command directive ≡ false) × (script ≡ round ++ directive ∷ rest))

-- what the run shows bytes of
abbrev pub has_dump : DumpOf → Bool
has_dump dumps.Log = true
has_dump (dumps.Xact page) = true
has_dump (dumps.Subtrans page) = true
has_dump (dumps.Offsets page) = true
has_dump (dumps.Members page) = true

-- a dump that it shows, with numbers in their ranges
abbrev pub MayShow : DumpOf → ℕ → ℕ → Type 0
MayShow what at size = (has_dump what ≡ true) × IsDump what at size × (1 ≤ size) × (size ≤ 64)

-- an item that the run has
abbrev pub has_item : Item → Bool
has_item (items.Run session command) = has_command command
has_item (items.Dump what at size) = has_dump what
has_item _ = true

-- a command that it has, with names and numbers in their ranges
abbrev pub MayAsk : Command → Type 0
MayAsk command = (has_command command ≡ true) × IsInRange command

-- a life with so many sessions can run the item
abbrev pub MayRun : ℕ → Item → Type 0
MayRun sessions (items.Run session command) = MayAsk command × (session < sessions)
MayRun sessions items.Round = Unit {0}
MayRun sessions items.Checkpoint = Unit {0}
MayRun sessions (items.Dump what at size) = MayShow what at size
MayRun sessions (items.Crash how) = ⊥

-- a run with so many sessions has the item: one of a life, or a crash between two lives
abbrev pub MayStand : ℕ → Item → Type 0
MayStand sessions (items.Crash how) = Unit {0}
MayStand sessions item = MayRun sessions item

-- a script that sessions can run, life by life and round by round
pub record IsRunnable (s : Script) : Type 0 where
  pub base : IsBase s.base
  pub items : All (MayStand (length s.names)) s.items
  pub sessions : length s.names ≤ 64
  pub few : length s.items ≤ 2 ^ 24
