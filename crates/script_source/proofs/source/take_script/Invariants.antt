use Rattle.std.proofs.Common.{◌-◌, ◌≤◌}
use Rattle.script_source.proofs.Coming.{Comes}
use Rattle.script_source.proofs.source.take_script.Given as goal

abbrev pub invariant-loop-came : goal.invariant-loop-came
invariant-loop-came g l = record {
  comes : Comes (g.S.Source.left l.fn.source) (g.S.Source.left l.source) l.reader l.kept.items l.came;
  later : g.S.Source.faults l.fn.source ≤ g.S.Source.faults l.source;
  bound : l.came ≤ 16777217;
}

abbrev pub decreases-loop-came : goal.decreases-loop-came
decreases-loop-came g l = 16777217 - l.came
