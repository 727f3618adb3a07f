use Rattle.recoverable.proofs.MembersFit.{members_fit}
use Rattle.recoverable.proofs.laws.members_fit.Goals as goal

pub returns : goal.returns
returns c = members_fit
