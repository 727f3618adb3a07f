use Rattle.xact_freezes.proofs.Reached.{parents_cut, states_cut, states_cut_near}
use Rattle.xact_freezes.proofs.laws.trims_cut.Goals as goal

pub returns-clause-parents : goal.returns-clause-parents
returns-clause-parents c = parents_cut

pub returns-clause-states : goal.returns-clause-states
returns-clause-states c = states_cut

pub returns-clause-near : goal.returns-clause-near
returns-clause-near c = states_cut_near
