use Rattle.engine_host.proofs.building.gather.Given as goal

abbrev pub ghost-life_note : goal.ghost-life_note
ghost-life_note g a = g.begins
