use Rattle.session_run.proofs.tool.run_generated.Given as goal

abbrev pub ghost-count_script : goal.ghost-count_script
ghost-count_script g a = g.kept
