use Rattle.reply_lines.proofs.by_events.is_given_late.Given as goal

abbrev pub ghost-is_warned : goal.ghost-is_warned
ghost-is_warned g a = g.s.asking.by
