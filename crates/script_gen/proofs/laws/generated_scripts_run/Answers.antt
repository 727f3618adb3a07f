use Rattle.script_gen.proofs.Whole.{scripts_run}
use Rattle.script_gen.proofs.laws.generated_scripts_run.Goals as goal

pub returns : goal.returns
returns c = scripts_run
