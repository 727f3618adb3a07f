use Rattle.reply_lines.proofs.commands.is_lawful_command.Given as goal

abbrev pub ghost-mark_events : goal.ghost-mark_events
ghost-mark_events g a = g.at

abbrev pub ghost-has_its_multis : goal.ghost-has_its_multis
ghost-has_its_multis g a = g.at

abbrev pub ghost-is_lawful_unless : goal.ghost-is_lawful_unless
ghost-is_lawful_unless g a = g.at
