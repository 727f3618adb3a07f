use Rattle.std.proofs.Common.{take}
use Rattle.place_rules.specs.Members.{AreGivenBelow}
use Rattle.place_rules.proofs.members.has_ungiven.Given as goal

abbrev pub invariant-loop-pair : goal.invariant-loop-pair
invariant-loop-pair l = record {
  given : AreGivenBelow l.next (take l.pair-index l.pairs);
}
