use Rattle.std.proofs.Common.{take}
use Rattle.dump_rules.proofs.Marking.{AreSoFar}
use Rattle.dump_rules.proofs.gens.gens_of.Given as goal

abbrev pub invariant-loop-place : goal.invariant-loop-place
invariant-loop-place g l = record {
  far : AreSoFar l.multis.base g.of.ok (take l.place l.events) l.gens.items;
}
