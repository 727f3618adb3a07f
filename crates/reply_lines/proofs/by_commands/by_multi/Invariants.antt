use Rattle.reply_lines.proofs.by_commands.by_multi.Given as goal

abbrev pub ghost-is_made_late : goal.ghost-is_made_late
ghost-is_made_late g a = g.s

abbrev pub ghost-by_multi_refused : goal.ghost-by_multi_refused
ghost-by_multi_refused g a = g.s
