use Rattle.std.proofs.Common.{length}
use Rattle.session_run.specs.Turns.{member_of}
use Rattle.session_run.proofs.TurnLemmas.{IsAt}
use Rattle.session_run.proofs.member.run_places.Given as goal

abbrev pub invariant-loop-place : goal.invariant-loop-place
invariant-loop-place g l = IsAt g.K.LineKeeper l.hall l.banks l.names l.round l.fn.places (member_of l.fn.caller l.fn.kept l.fn.lines) l.left (member_of l.caller l.kept l.lines)

abbrev pub decreases-loop-place : goal.decreases-loop-place
decreases-loop-place g l = length l.left
