use Rattle.tx_core.proofs.Nearness.{multis_are_legal}
use Rattle.tx_core.proofs.laws.multis_are_legal.Goals as goal

pub returns : goal.returns
returns c = multis_are_legal
