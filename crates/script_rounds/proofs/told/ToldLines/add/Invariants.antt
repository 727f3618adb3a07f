use Rattle.std.proofs.Common.{[], ◌∷◌, ◌++◌}
use Rattle.script_rounds.proofs.told.ToldLines.add.Given as goal

abbrev pub ghost-noted_line : goal.ghost-noted_line
ghost-noted_line a = a._lines.now ++ (record { by = a._by; command = a._command.now; reply = a._reply.now }) ∷ []
