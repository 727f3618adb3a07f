use Rattle.engine_life.proofs.old_life.begin_old.Given as goal

abbrev pub ghost-open_old : goal.ghost-open_old
ghost-open_old g a = g.kept
