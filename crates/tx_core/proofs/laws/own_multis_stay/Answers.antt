use Rattle.tx_core.proofs.OwnMultis.{done_stays, making_stays, own_multis_stay, pins_stay}
use Rattle.tx_core.proofs.laws.own_multis_stay.Goals as goal

pub returns-clause-events : goal.returns-clause-events
returns-clause-events c = own_multis_stay

pub returns-clause-pins : goal.returns-clause-pins
returns-clause-pins c = pins_stay

pub returns-clause-done : goal.returns-clause-done
returns-clause-done c = done_stays

pub returns-clause-making : goal.returns-clause-making
returns-clause-making c = making_stays
