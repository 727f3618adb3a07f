use Rattle.report_check.proofs.Sectioned.{broken_behind}
use Rattle.report_check.proofs.life.behind.Goals as goal

pub returns-in_ok-plus-in-Broken : goal.returns-in_ok-plus-in-Broken
returns-in_ok-plus-in-Broken c = λ xs ys a s b. broken_behind xs ys c.args.walked c.args.count c.in-Broken.lines c.in_ok-plus-in-Broken.field-0 c.in-Broken.is c.in_ok-plus-in-Broken.ensures a s b
