use Rattle.reply_lines.proofs.by_commands.by_freeze.Given as goal

abbrev pub ghost-is_backward : goal.ghost-is_backward
ghost-is_backward g a = g.s

abbrev pub ghost-is_too_new : goal.ghost-is_too_new
ghost-is_too_new g a = g.s
