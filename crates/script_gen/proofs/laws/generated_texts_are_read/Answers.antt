use Rattle.script_gen.proofs.Whole.{texts_are_read}
use Rattle.script_gen.proofs.laws.generated_texts_are_read.Goals as goal

pub returns : goal.returns
returns c = texts_are_read
