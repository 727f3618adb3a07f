use Rattle.report_lines.proofs.Crashes.{only}
use Rattle.report_lines.proofs.fixed.crash_at.Goals as goal

pub returns-clause-only : goal.returns-clause-only
returns-clause-only c = λ h t. only c.args.line.now c.crash_in.result c.crash_in.ensures h t
