use Rattle.reply_lines.proofs.by_commands.by_snap.Given as goal

abbrev pub ghost-has_taken : goal.ghost-has_taken
ghost-has_taken g a = record { spot = g.s; lists = a._lists.now }
