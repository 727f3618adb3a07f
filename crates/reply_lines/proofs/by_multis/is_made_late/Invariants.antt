use Rattle.reply_lines.proofs.by_multis.is_made_late.Given as goal

abbrev pub ghost-is_multi_warned : goal.ghost-is_multi_warned
ghost-is_multi_warned g a = g.s.asking.by
