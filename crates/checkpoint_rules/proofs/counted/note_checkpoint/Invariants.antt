use Rattle.checkpoint_rules.proofs.counted.note_checkpoint.Given as goal

abbrev pub ghost-note_asked : goal.ghost-note_asked
ghost-note_asked g a = g.at

abbrev pub ghost-note_done : goal.ghost-note_done
ghost-note_done g a = g.at
