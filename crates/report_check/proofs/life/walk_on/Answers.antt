use Rattle.std.proofs.Common.{[], List}
use Rattle.report_law.specs.ReportLines.{ReportLine, steps_lines}
use Rattle.report_check.specs.Walked.{behind_steps}
use Rattle.report_check.proofs.Sectioned.{broken_before, joined, lawful_part}
use Rattle.report_check.proofs.life.walk_on.Goals as goal

pub returns-in-Broken : goal.returns-in-Broken
returns-in-Broken g c =
    broken_before (steps_lines g.j [] g.j.steps) (behind_steps c.args.report.now.crash g.j) c.args.steps.walked c.in-Broken.lines c.in-Broken.is c.requires.1.1.1.1.1.0

pub returns-in_ok-walk_from_events-in-Lawful : goal.returns-in_ok-walk_from_events-in-Lawful
returns-in_ok-walk_from_events-in-Lawful g c =
    let xs : List ReportLine = steps_lines g.j [] g.j.steps in
    let part = lawful_part xs c.args.steps.walked c.in-Lawful.lines c.in-Lawful.is c.requires.1.1.1.1.1.0 in
    joined c.behind.result c.in-Lawful.lines c.in_ok-walk_from_events-in-Lawful.field-0 xs (behind_steps c.args.report.now.crash g.j) c.behind.ensures part.0 part.1 c.in_ok-walk_from_events-in-Lawful.ensures
