use Rattle.reply_lines.proofs.by_commands.by_verdicts.Given as goal

abbrev pub ghost-has_verdicts : goal.ghost-has_verdicts
ghost-has_verdicts g a = record { spot = g.s; number = a.number }
