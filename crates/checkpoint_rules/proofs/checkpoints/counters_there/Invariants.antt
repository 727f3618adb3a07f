use Rattle.checkpoint_rules.proofs.checkpoints.counters_there.Given as goal

abbrev pub ghost-counters_at : goal.ghost-counters_at
ghost-counters_at g a = g.at.multis
