use Rattle.std.proofs.Common.{◌++◌}
use Rattle.script_rounds.proofs.told.ToldLines.add_all.Given as goal

abbrev pub ghost-noted_lines : goal.ghost-noted_lines
ghost-noted_lines a = a._lines.now ++ a._more.now
