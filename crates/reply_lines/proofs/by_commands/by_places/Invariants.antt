use Rattle.reply_lines.proofs.by_commands.by_places.Given as goal

abbrev pub ghost-by_write : goal.ghost-by_write
ghost-by_write g a = g.s

abbrev pub ghost-by_snap : goal.ghost-by_snap
ghost-by_snap g a = g.s

abbrev pub ghost-by_horizon : goal.ghost-by_horizon
ghost-by_horizon g a = g.s

abbrev pub ghost-by_see : goal.ghost-by_see
ghost-by_see g a = g.s

abbrev pub ghost-by_status : goal.ghost-by_status
ghost-by_status g a = g.s

abbrev pub ghost-by_did : goal.ghost-by_did
ghost-by_did g a = g.s

abbrev pub ghost-by_freeze : goal.ghost-by_freeze
ghost-by_freeze g a = g.s

abbrev pub ghost-by_multi : goal.ghost-by_multi
ghost-by_multi g a = g.s

abbrev pub ghost-by_see_multi : goal.ghost-by_see_multi
ghost-by_see_multi g a = g.s

abbrev pub ghost-by_multi_freeze : goal.ghost-by_multi_freeze
ghost-by_multi_freeze g a = g.s
