use Rattle.engine_life.proofs.opened.open_life.Given as goal

abbrev pub ghost-begin_over : goal.ghost-begin_over
ghost-begin_over g a = g.kept
