use Rattle.std.proofs.Common.{take}
use Rattle.multi_makes.specs.Full.{AreFullOf}
use Rattle.multi_makes.proofs.full.full_members.Given as goal

abbrev pub invariant-loop-pair : goal.invariant-loop-pair
invariant-loop-pair l = AreFullOf l.found.next (take l.pair-index l.pairs) l.members
