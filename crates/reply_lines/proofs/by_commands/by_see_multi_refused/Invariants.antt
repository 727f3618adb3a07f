use Rattle.reply_lines.proofs.by_commands.by_see_multi_refused.Given as goal

abbrev pub ghost-is_waited_for : goal.ghost-is_waited_for
ghost-is_waited_for g a = g.s

abbrev pub ghost-is_multi_too_old : goal.ghost-is_multi_too_old
ghost-is_multi_too_old g a = g.s

abbrev pub ghost-is_multi_to_come : goal.ghost-is_multi_to_come
ghost-is_multi_to_come g a = g.s
