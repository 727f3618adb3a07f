use Rattle.checkpoint_rules.proofs.checkpoints.pass_step.Given as goal

abbrev pub ghost-note_reached : goal.ghost-note_reached
ghost-note_reached g a = g.at
