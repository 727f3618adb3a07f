use Rattle.engine_host.proofs.building.add_bank.Given as goal

abbrev pub ghost-open_states : goal.ghost-open_states
ghost-open_states g a = g.begins

abbrev pub ghost-open_multis : goal.ghost-open_multis
ghost-open_multis g a = g.begins
