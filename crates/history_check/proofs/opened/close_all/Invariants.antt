use Rattle.std.proofs.Common.{take}
use Rattle.history_check.proofs.Noting.{IsClosedSoFar}
use Rattle.history_check.proofs.opened.close_all.Given as goal

abbrev pub invariant-loop-id : goal.invariant-loop-id
invariant-loop-id l = IsClosedSoFar (take l.id-index l.closed) l.fn.opened l.opened
