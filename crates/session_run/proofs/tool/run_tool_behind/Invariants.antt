use Rattle.session_run.proofs.tool.run_tool_behind.Given as goal

abbrev pub ghost-work : goal.ghost-work
ghost-work g a = g.kept
