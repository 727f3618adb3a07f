use Rattle.reply_lines.proofs.commands.mark_events.Given as goal

abbrev pub ghost-its_events : goal.ghost-its_events
ghost-its_events g a = g.at
