use Rattle.xact_freezes.proofs.Holding.{members_held}
use Rattle.xact_freezes.proofs.laws.members_held.Goals as goal

pub returns : goal.returns
returns c = members_held
