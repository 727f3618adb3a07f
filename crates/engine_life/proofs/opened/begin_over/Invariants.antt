use Rattle.engine_life.proofs.opened.begin_over.Given as goal

abbrev pub ghost-begin_old : goal.ghost-begin_old
ghost-begin_old g a = g.kept
