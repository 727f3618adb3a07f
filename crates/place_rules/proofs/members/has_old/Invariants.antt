use Rattle.std.proofs.Common.{take}
use Rattle.place_rules.specs.Members.{AreGivenBelow}
use Rattle.place_rules.proofs.Refusing.{NoneOld}
use Rattle.place_rules.proofs.members.has_old.Given as goal

abbrev pub invariant-loop-pair : goal.invariant-loop-pair
invariant-loop-pair l = record {
  given : AreGivenBelow l.next (take l.pair-index l.pairs);
  young : NoneOld l.next l.oldest l.pairs l.pair-index;
}
