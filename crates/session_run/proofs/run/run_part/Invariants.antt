use Rattle.session_run.proofs.run.run_part.Given as goal

abbrev pub ghost-by : goal.ghost-by
ghost-by g a = a._about.now.value
