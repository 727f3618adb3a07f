use Rattle.script_gen.proofs.Whole.{scripts_are_sound}
use Rattle.script_gen.proofs.laws.generated_scripts_are_sound.Goals as goal

pub returns : goal.returns
returns c = scripts_are_sound
