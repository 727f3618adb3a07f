use Rattle.reply_lines.proofs.by_commands.by_multi_freeze_refused.Given as goal

abbrev pub ghost-is_behind : goal.ghost-is_behind
ghost-is_behind g a = g.s

abbrev pub ghost-is_held : goal.ghost-is_held
ghost-is_held g a = g.s

abbrev pub ghost-is_waited_for : goal.ghost-is_waited_for
ghost-is_waited_for g a = g.s
