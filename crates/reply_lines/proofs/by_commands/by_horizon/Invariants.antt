use Rattle.reply_lines.proofs.by_commands.by_horizon.Given as goal

abbrev pub ghost-is_horizon : goal.ghost-is_horizon
ghost-is_horizon g a = g.s
