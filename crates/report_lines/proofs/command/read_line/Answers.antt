use Rattle.std.proofs.Common.{drop, take, length, ◌-◌}
use Rattle.std.proofs.lemmas.List.{take_rest}
use Rattle.tx_model.specs.declared.report.Line.{Line}
use Rattle.report_text.specs.ReportText.{command_line}
use Rattle.report_lines.specs.Commands.{line_at}
use Rattle.report_words.specs.Fits.{FitsLine}
use Rattle.report_lines.proofs.AgainLines.{command_line_again}
use Rattle.report_words.specs.Words.{behind}
use Rattle.report_lines.proofs.Compared.{only_err, only_ok, only_no}
use Rattle.report_lines.proofs.command.read_line.Goals as goal

pub returns-in-Err-clause-only : goal.returns-in-Err-clause-only
returns-in-Err-clause-only c = λ x t. only_err {X = Line} (line_at c.args.names.now (behind (take (length c.args.bytes.now - 1) c.args.bytes.now))) c.in-Err.unread x c.in-Err.ensures (command_line_again c.args.names.now c.args.bytes.now x c.requires.names c.requires.some t.fit t.text)

pub returns-in-Ok-true-clause-found : goal.returns-in-Ok-true-clause-found
returns-in-Ok-true-clause-found c = (rw (take_rest c.args.bytes.now 1) at c.in-Ok-true.ensures).0 c.in-Ok-true.field-0-test

pub returns-in-Ok-true-clause-only : goal.returns-in-Ok-true-clause-only
returns-in-Ok-true-clause-only c = λ x t. only_ok {X = Line} (line_at c.args.names.now (behind (take (length c.args.bytes.now - 1) c.args.bytes.now))) c.in-Ok.said x c.in-Ok.ensures (command_line_again c.args.names.now c.args.bytes.now x c.requires.names c.requires.some t.fit t.text)

pub returns-in-Ok-false-clause-only : goal.returns-in-Ok-false-clause-only
returns-in-Ok-false-clause-only c = λ x t. only_no {X = Line} (FitsLine c.args.names.now) (command_line c.args.names.now) (drop 1 c.args.bytes.now) (line_at c.args.names.now (behind (take (length c.args.bytes.now - 1) c.args.bytes.now))) c.in-Ok.said x c.in-Ok-false.field-0 c.in-Ok.ensures (rw (take_rest c.args.bytes.now 1) at c.in-Ok-false.ensures) c.in-Ok-false.field-0-test (command_line_again c.args.names.now c.args.bytes.now x c.requires.names c.requires.some t.fit t.text) t
