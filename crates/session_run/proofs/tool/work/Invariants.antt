use Rattle.session_run.proofs.tool.work.Given as goal

abbrev pub ghost-run_source : goal.ghost-run_source
ghost-run_source g a = g.kept

abbrev pub ghost-run_generated : goal.ghost-run_generated
ghost-run_generated g a = g.kept
