use Rattle.dump_rules.specs.Cutting.{HasFirsts}
use Rattle.dump_rules.proofs.cuts.firsts_of.Given as goal

abbrev pub invariant-loop-place : goal.invariant-loop-place
invariant-loop-place l = record {
  firsts : HasFirsts l.places.base l.places.events l.place l.firsts;
}
