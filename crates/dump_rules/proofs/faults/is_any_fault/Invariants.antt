use Rattle.std.proofs.Common.{◌≡◌, false, take}
use Rattle.std.specs.List.{list_any}
use Rattle.report_law.specs.Dumps.{is_faulty_step}
use Rattle.dump_rules.proofs.faults.is_any_fault.Given as goal

abbrev pub invariant-loop-step : goal.invariant-loop-step
invariant-loop-step l = list_any is_faulty_step (take l.step-index l.steps) ≡ false
