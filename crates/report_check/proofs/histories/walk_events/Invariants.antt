use Rattle.std.proofs.Common.{take}
use Rattle.std.specs.List.{AllByRecursion}
use Rattle.report_law.specs.ReportLines.{IsLawfulAt, event, placed}
use Rattle.report_check.proofs.histories.walk_events.Given as goal

abbrev pub ghost-is_lawful_event : goal.ghost-is_lawful_event
ghost-is_lawful_event g a = g.j

abbrev pub invariant-loop-place : goal.invariant-loop-place
invariant-loop-place g l = AllByRecursion IsLawfulAt (placed (event g.j) 0 (take l.place g.j.life.events))
