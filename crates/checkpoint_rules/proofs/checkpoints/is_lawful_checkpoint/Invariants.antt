use Rattle.checkpoint_rules.specs.Noting.{walked_of}
use Rattle.checkpoint_rules.proofs.checkpoints.is_lawful_checkpoint.Given as goal

abbrev pub ghost-asked_of : goal.ghost-asked_of
ghost-asked_of g a = walked_of g.at

abbrev pub ghost-named_of : goal.ghost-named_of
ghost-named_of g a = walked_of g.at

abbrev pub ghost-counters_if : goal.ghost-counters_if
ghost-counters_if g a = g.at

abbrev pub ghost-may_checkpoint : goal.ghost-may_checkpoint
ghost-may_checkpoint g a = walked_of g.at
