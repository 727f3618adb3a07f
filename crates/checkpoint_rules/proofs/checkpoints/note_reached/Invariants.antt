use Rattle.checkpoint_rules.specs.Noting.{walked_of}
use Rattle.checkpoint_rules.proofs.checkpoints.note_reached.Given as goal

abbrev pub ghost-counters_there : goal.ghost-counters_there
ghost-counters_there g a = g.at

abbrev pub ghost-note_checkpoint : goal.ghost-note_checkpoint
ghost-note_checkpoint g a = walked_of g.at
