use Rattle.engine_host.proofs.pairs.open_states.Given as goal

abbrev pub ghost-open_xact : goal.ghost-open_xact
ghost-open_xact g a = g.begins

abbrev pub ghost-open_subtrans : goal.ghost-open_subtrans
ghost-open_subtrans g a = g.begins
