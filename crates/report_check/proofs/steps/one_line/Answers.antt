use Rattle.report_check.proofs.StepByStep.{one_broken}
use Rattle.report_check.proofs.steps.one_line.Goals as goal

pub returns-else-lawful : goal.returns-else-lawful
returns-else-lawful c = λ x f. one_broken c.args.lawful x c.if-lawful.false f
