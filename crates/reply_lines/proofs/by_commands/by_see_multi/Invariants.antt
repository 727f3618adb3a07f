use Rattle.reply_lines.proofs.by_commands.by_see_multi.Given as goal

abbrev pub ghost-by_verdicts : goal.ghost-by_verdicts
ghost-by_verdicts g a = g.s

abbrev pub ghost-by_see_multi_refused : goal.ghost-by_see_multi_refused
ghost-by_see_multi_refused g a = g.s
