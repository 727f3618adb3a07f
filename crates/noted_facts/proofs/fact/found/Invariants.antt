use Rattle.noted_facts.proofs.fact.found.Given as goal

abbrev pub ghost-by : goal.ghost-by
ghost-by g a = a._about.now.value
