use Rattle.engine_host.proofs.pairs.open_multis.Given as goal

abbrev pub ghost-open_offsets : goal.ghost-open_offsets
ghost-open_offsets g a = g.begins

abbrev pub ghost-open_members : goal.ghost-open_members
ghost-open_members g a = g.begins
