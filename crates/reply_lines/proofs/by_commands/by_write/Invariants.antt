use Rattle.reply_lines.proofs.by_commands.by_write.Given as goal

abbrev pub ghost-is_given_late : goal.ghost-is_given_late
ghost-is_given_late g a = g.s

abbrev pub ghost-is_stopped : goal.ghost-is_stopped
ghost-is_stopped g a = g.s
