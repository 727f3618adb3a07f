use Rattle.session_run.proofs.InTurn.{AreInTurn}
use Rattle.session_run.proofs.round.run_in_turn.Given as goal

abbrev pub invariant-loop-member : goal.invariant-loop-member
invariant-loop-member g l =
    AreInTurn g.K.LineKeeper l.hall l.banks l.names l.round l.member-index l.fn.kept l.initial.member-items l.kept l.member-items
