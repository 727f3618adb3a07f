use Rattle.bank_follows.proofs.Begins.{zeros_show_nothing}
use Rattle.bank_follows.proofs.laws.zeros_show_nothing.Goals as goal

pub returns : goal.returns
returns c = zeros_show_nothing
