use Rattle.session_run.proofs.run.end_part.Given as goal

abbrev pub ghost-go_on : goal.ghost-go_on
ghost-go_on g a = a._log.now.value.kept
