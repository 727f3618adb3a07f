-- The command that the words of a line say.
use Rattle.std.specs.Prelude.{ℕ, List}
use Rattle.tx_model.specs.declared.command.Command.{Command}
use Rattle.tx_model.specs.declared.command.Command.TheVariants as commands
use Rattle.script_lines.specs.declared.said.IdCommand.{IdCommand}
use Rattle.script_lines.specs.declared.said.IdCommand.TheVariants as ids
use Rattle.script_lines.specs.declared.said.NamedCommand.{NamedCommand}
use Rattle.script_lines.specs.declared.said.NamedCommand.TheVariants as named
use Rattle.script_lines.specs.declared.said.PlainCommand.{PlainCommand}
use Rattle.script_lines.specs.declared.said.PlainCommand.TheVariants as plain
use Rattle.script_lines.specs.declared.said.Said.{Said}
use Rattle.script_lines.specs.declared.said.Said.TheVariants as says

abbrev pub plain_command : PlainCommand → Command
plain_command plain.Begin = commands.Begin
plain_command plain.Save = commands.Save
plain_command plain.Write = commands.Write
plain_command plain.Release = commands.Release
plain_command plain.Undo = commands.Undo
plain_command plain.Commit = commands.Commit
plain_command plain.Abort = commands.Abort
plain_command plain.Trim = commands.Trim
plain_command plain.Horizon = commands.Horizon

abbrev pub named_command : NamedCommand → List ℕ → ℕ → Command
named_command named.Snap name number = commands.Snap name
named_command named.DropSnap name number = commands.DropSnap name
named_command named.See name number = commands.See name (record { number = number })
named_command named.SeeMulti name number = commands.SeeMulti name (record { number = number })

abbrev pub id_command : IdCommand → ℕ → Command
id_command ids.Status number = commands.Status number
id_command ids.Freeze number = commands.Freeze number
id_command ids.MultiFreeze number = commands.MultiFreeze number

abbrev pub said : Said → Command
said (says.Plain command) = plain_command command
said (says.Named command number name) = named_command command name.now number
said (says.Did x) = commands.Did x
said (says.OfId command number) = id_command command number
said (says.Multi members) = commands.Multi members
