use Rattle.std.proofs.Common.{length}
use Rattle.session_run.proofs.Returning.{AreComing}
use Rattle.session_run.proofs.round.take_back.Given as goal

abbrev pub invariant-loop-member : goal.invariant-loop-member
invariant-loop-member g l = AreComing l.hall l.fn.host l.fn.sessions l.fn.members.items l.host l.sessions l.members.items

abbrev pub decreases-loop-member : goal.decreases-loop-member
decreases-loop-member g l = length l.members.items
