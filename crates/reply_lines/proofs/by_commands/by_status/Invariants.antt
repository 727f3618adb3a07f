use Rattle.reply_lines.proofs.by_commands.by_status.Given as goal

abbrev pub ghost-has_status : goal.ghost-has_status
ghost-has_status g a = g.s

abbrev pub ghost-is_to_come : goal.ghost-is_to_come
ghost-is_to_come g a = g.s

abbrev pub ghost-is_carried : goal.ghost-is_carried
ghost-is_carried g a = g.s
