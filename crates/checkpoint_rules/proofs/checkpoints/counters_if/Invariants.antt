use Rattle.checkpoint_rules.proofs.checkpoints.counters_if.Given as goal

abbrev pub ghost-counters_there : goal.ghost-counters_there
ghost-counters_there g a = g.at
