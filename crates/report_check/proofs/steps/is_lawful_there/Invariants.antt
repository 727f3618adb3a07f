use Rattle.report_check.specs.Stepping.{noting_at}
use Rattle.report_check.proofs.steps.is_lawful_there.Given as goal

abbrev pub ghost-is_lawful_checkpoint : goal.ghost-is_lawful_checkpoint
ghost-is_lawful_checkpoint g a = noting_at g.of
