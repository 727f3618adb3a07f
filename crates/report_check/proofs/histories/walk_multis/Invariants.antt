use Rattle.std.proofs.Common.{take}
use Rattle.std.specs.List.{AllByRecursion}
use Rattle.report_law.specs.ReportLines.{IsLawfulAt, multi, placed}
use Rattle.report_check.specs.Walked.{AreLatest}
use Rattle.report_check.proofs.histories.walk_multis.Given as goal

abbrev pub ghost-is_lawful_multi : goal.ghost-is_lawful_multi
ghost-is_lawful_multi g a = g.j

abbrev pub invariant-loop-place : goal.invariant-loop-place
invariant-loop-place g l = record {
  lawful : AllByRecursion IsLawfulAt (placed (multi g.j) 0 (take l.place g.j.life.multis));
  latest : AreLatest (take l.place g.j.life.multis) l.last.items;
}
