use Rattle.reply_lines.proofs.by_commands.by_see.Given as goal

abbrev pub ghost-by_see_at : goal.ghost-by_see_at
ghost-by_see_at g a = g.s
