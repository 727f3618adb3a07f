use Rattle.engine_life.proofs.old_parts.open_recovered.Given as goal

abbrev pub ghost-open_begun : goal.ghost-open_begun
ghost-open_begun g a = g.begins
