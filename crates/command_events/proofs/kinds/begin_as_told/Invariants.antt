use Rattle.std.proofs.Common.{◌↔◌, drop}
use Rattle.report_law.specs.Kinds.{BeginAsTold}
use Rattle.command_events.proofs.kinds.begin_as_told.Given as goal

abbrev pub invariant-loop-place : goal.invariant-loop-place
invariant-loop-place l = BeginAsTold l.told l.own ↔ BeginAsTold (drop l.place l.told) (drop l.place l.own)
