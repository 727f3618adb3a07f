use Rattle.std.proofs.Common.{drop, take, length, ◌-◌}
use Rattle.std.proofs.lemmas.List.{take_rest}
use Rattle.tx_model.specs.declared.report.Step.{Step}
use Rattle.report_text.specs.ReportText.{step_text}
use Rattle.report_lines.specs.Steps.{step_at}
use Rattle.report_lines.specs.Fits.{FitsStep}
use Rattle.report_lines.proofs.AgainSteps.{step_line_again}
use Rattle.report_words.specs.Words.{behind}
use Rattle.report_lines.proofs.Compared.{only_err, only_ok, only_no}
use Rattle.report_lines.proofs.step.read_step.Goals as goal

pub returns-in-Err-clause-only : goal.returns-in-Err-clause-only
returns-in-Err-clause-only c = λ x t. only_err {X = Step} (step_at c.args.names.now (behind (take (length c.args.bytes.now - 1) c.args.bytes.now))) c.in-Err.unread x c.in-Err.ensures (step_line_again c.args.names.now c.args.bytes.now x c.requires.names c.requires.some t.fit t.text)

pub returns-in-Ok-true-clause-found : goal.returns-in-Ok-true-clause-found
returns-in-Ok-true-clause-found c = (rw (take_rest c.args.bytes.now 1) at c.in-Ok-true.ensures).0 c.in-Ok-true.field-0-test

pub returns-in-Ok-true-clause-only : goal.returns-in-Ok-true-clause-only
returns-in-Ok-true-clause-only c = λ x t. only_ok {X = Step} (step_at c.args.names.now (behind (take (length c.args.bytes.now - 1) c.args.bytes.now))) c.in-Ok.step x c.in-Ok.ensures (step_line_again c.args.names.now c.args.bytes.now x c.requires.names c.requires.some t.fit t.text)

pub returns-in-Ok-false-clause-only : goal.returns-in-Ok-false-clause-only
returns-in-Ok-false-clause-only c = λ x t. only_no {X = Step} (FitsStep c.args.names.now) (step_text c.args.names.now) (drop 1 c.args.bytes.now) (step_at c.args.names.now (behind (take (length c.args.bytes.now - 1) c.args.bytes.now))) c.in-Ok.step x c.in-Ok-false.field-0 c.in-Ok.ensures (rw (take_rest c.args.bytes.now 1) at c.in-Ok-false.ensures) c.in-Ok-false.field-0-test (step_line_again c.args.names.now c.args.bytes.now x c.requires.names c.requires.some t.fit t.text) t
