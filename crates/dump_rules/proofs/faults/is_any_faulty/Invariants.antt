use Rattle.std.proofs.Common.{◌≡◌, false, take}
use Rattle.std.specs.List.{list_any}
use Rattle.tx_model.specs.declared.report.Line.{Line}
use Rattle.report_law.specs.Dumps.{is_fault}
use Rattle.dump_rules.proofs.faults.is_any_faulty.Given as goal

abbrev pub invariant-loop-line : goal.invariant-loop-line
invariant-loop-line l = list_any (λ (x : Line). is_fault x.reply) (take l.line-index l.lines) ≡ false
