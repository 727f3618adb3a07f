use Rattle.report_text.specs.ReportText.{command_line, step_text}
use Rattle.report_lines.specs.Commands.{line_at}
use Rattle.report_lines.specs.Events.{event_at, multi_event_at}
use Rattle.report_lines.specs.Records.{record_line_at, start_at, log_at}
use Rattle.report_lines.specs.Steps.{step_at}
use Rattle.report_words.specs.Texts.{event_line, multi_line, record_line}
use Rattle.report_lines.specs.Texts.{log_line, start_line}
use Rattle.report_words.specs.Fits.{FitsEvent, FitsLine, FitsMultiEvent, FitsRecord}
use Rattle.report_lines.specs.Fits.{FitsStart, FitsLog, FitsStep}
use Rattle.report_lines.proofs.AgainLines.{command_line_again, record_line_again, start_line_again, log_line_again}
use Rattle.report_lines.proofs.AgainEvents.{event_line_again, multi_line_again}
use Rattle.report_lines.proofs.AgainSteps.{step_line_again}
use Rattle.report_lines.proofs.Apart.{apart}
use Rattle.report_lines.proofs.law.no_line_of_two.Goals as goal

pub returns-clause-lines : goal.returns-clause-lines
returns-clause-lines c = λ names n. apart (line_at names) (command_line names) (FitsLine names) (λ bytes x l f t. command_line_again names bytes x n l f t)

pub returns-clause-events : goal.returns-clause-events
returns-clause-events c = λ names n. apart (event_at names) (event_line names) (FitsEvent names) (λ bytes x l f t. event_line_again names bytes x n f l t)

pub returns-clause-multis : goal.returns-clause-multis
returns-clause-multis c = λ names n. apart (multi_event_at names) (multi_line names) (FitsMultiEvent names) (λ bytes x l f t. multi_line_again names bytes x n l f t)

pub returns-clause-steps : goal.returns-clause-steps
returns-clause-steps c = λ names n. apart (step_at names) (step_text names) (FitsStep names) (λ bytes x l f t. step_line_again names bytes x n l f t)

pub returns-clause-records : goal.returns-clause-records
returns-clause-records c = λ n k. apart (record_line_at n) (record_line n) (FitsRecord n) (λ bytes x l f t. record_line_again n bytes x k l f t)

pub returns-clause-starts : goal.returns-clause-starts
returns-clause-starts c = λ n k. apart start_at (start_line n) FitsStart (λ bytes x l f t. start_line_again n bytes x k l f t)

pub returns-clause-logs : goal.returns-clause-logs
returns-clause-logs c = apart log_at log_line FitsLog (λ bytes x l f t. log_line_again bytes x l f t)
