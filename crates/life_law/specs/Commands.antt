-- The commands that make a level or a multixact.
use Rattle.std.specs.Prelude.{Bool, true, false}
use Rattle.tx_model.specs.declared.command.Command.{Command}
use Rattle.tx_model.specs.declared.command.Command.TheVariants as commands

-- whether a command makes a level, which may be given an id
abbrev pub makes_level : Command → Bool
makes_level commands.Begin = true
makes_level commands.Save = true
makes_level command = false

-- whether it makes a multixact
abbrev pub makes_multi : Command → Bool
makes_multi (commands.Multi members) = true
makes_multi command = false
