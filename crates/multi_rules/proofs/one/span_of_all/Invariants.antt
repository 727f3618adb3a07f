use Rattle.std.proofs.Common.{◌≡◌, length, take}
use Rattle.multi_rules.specs.Snapped.{AreBetween}
use Rattle.multi_rules.specs.Telling.{AreToldBy}
use Rattle.multi_rules.proofs.one.span_of_all.Given as goal

abbrev pub ghost-span_of : goal.ghost-span_of
ghost-span_of g a = g.of

abbrev pub invariant-loop-number : goal.invariant-loop-number
invariant-loop-number g l = record {
  same : length l.members ≡ length l.told;
  between : AreBetween (AreToldBy l.places.base l.places.events g.of (take l.number l.members) (take l.number l.told)) l.taken l.span;
}
