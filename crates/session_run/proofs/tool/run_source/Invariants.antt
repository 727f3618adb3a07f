use Rattle.session_run.proofs.tool.run_source.Given as goal

abbrev pub ghost-run_script : goal.ghost-run_script
ghost-run_script g a = g.kept
