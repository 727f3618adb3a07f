use Rattle.reply_lines.proofs.by_commands.by_multi_refused.Given as goal

abbrev pub ghost-is_ungiven : goal.ghost-is_ungiven
ghost-is_ungiven g a = g.s

abbrev pub ghost-is_old : goal.ghost-is_old
ghost-is_old g a = g.s

abbrev pub ghost-are_stopped : goal.ghost-are_stopped
ghost-are_stopped g a = g.s

abbrev pub ghost-are_members_stopped : goal.ghost-are_members_stopped
ghost-are_members_stopped g a = g.s
