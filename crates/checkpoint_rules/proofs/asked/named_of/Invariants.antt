use Rattle.checkpoint_rules.proofs.asked.named_of.Given as goal

abbrev pub ghost-left_of : goal.ghost-left_of
ghost-left_of g a = g.at
