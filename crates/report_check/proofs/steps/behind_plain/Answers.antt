use Rattle.report_check.proofs.StepByStep.{plain_broken}
use Rattle.report_check.proofs.steps.behind_plain.Goals as goal

pub returns-in_ok-plus-in-Broken-clause-walked : goal.returns-in_ok-plus-in-Broken-clause-walked
returns-in_ok-plus-in-Broken-clause-walked c = λ xs b. plain_broken xs c.args.walked c.in-Broken.lines c.in_ok-plus-in-Broken.field-0 c.in-Broken.is c.in_ok-plus-in-Broken.ensures b
