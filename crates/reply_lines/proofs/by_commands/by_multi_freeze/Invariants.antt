use Rattle.reply_lines.proofs.by_commands.by_multi_freeze.Given as goal

abbrev pub ghost-has_pinned : goal.ghost-has_pinned
ghost-has_pinned g a = g.s

abbrev pub ghost-by_multi_freeze_refused : goal.ghost-by_multi_freeze_refused
ghost-by_multi_freeze_refused g a = g.s
