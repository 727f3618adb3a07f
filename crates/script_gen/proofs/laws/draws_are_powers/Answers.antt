use Rattle.script_gen.proofs.Powers.{draws_are_powers}
use Rattle.script_gen.proofs.laws.draws_are_powers.Goals as goal

pub returns : goal.returns
returns c = draws_are_powers
