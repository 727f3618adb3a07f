use Rattle.std.proofs.Common.{◌≤◌, length, vec_capacity}
use Rattle.session_run.proofs.Letting.{AreIn}
use Rattle.session_run.proofs.round.let_in.Given as goal

abbrev pub invariant-loop-number : goal.invariant-loop-number
invariant-loop-number g l = record {
  are_in : AreIn g.K.LineKeeper l.hall l.fn.host l.fn.sessions l.numbers l.number-index l.host l.sessions l.members.items;
  room : length l.numbers ≤ vec_capacity l.members;
}
