use Rattle.session_run.proofs.run.count_script.Given as goal

abbrev pub ghost-open_life : goal.ghost-open_life
ghost-open_life g a = g.kept
