use Rattle.std.proofs.Common.{drop, take, length, ◌-◌}
use Rattle.std.proofs.lemmas.List.{take_rest}
use Rattle.report_lines.specs.declared.life.LogHead.{LogHead}
use Rattle.report_lines.specs.Records.{log_at}
use Rattle.report_lines.specs.Fits.{FitsLog}
use Rattle.report_lines.specs.Texts.{log_line}
use Rattle.report_lines.proofs.AgainLines.{log_line_again}
use Rattle.report_words.specs.Words.{behind}
use Rattle.report_lines.proofs.Compared.{only_err, only_ok, only_no}
use Rattle.report_lines.proofs.life.read_log_head.Goals as goal

pub returns-in-Err-clause-only : goal.returns-in-Err-clause-only
returns-in-Err-clause-only c = λ x t. only_err {X = LogHead} (log_at (behind (take (length c.args.bytes.now - 1) c.args.bytes.now))) c.in-Err.unread x c.in-Err.ensures (log_line_again c.args.bytes.now x c.requires t.fit t.text)

pub returns-in-Ok-true-clause-found : goal.returns-in-Ok-true-clause-found
returns-in-Ok-true-clause-found c = (rw (take_rest c.args.bytes.now 1) at c.in-Ok-true.ensures).0 c.in-Ok-true.field-0-test

pub returns-in-Ok-true-clause-only : goal.returns-in-Ok-true-clause-only
returns-in-Ok-true-clause-only c = λ x t. only_ok {X = LogHead} (log_at (behind (take (length c.args.bytes.now - 1) c.args.bytes.now))) c.in-Ok.head x c.in-Ok.ensures (log_line_again c.args.bytes.now x c.requires t.fit t.text)

pub returns-in-Ok-false-clause-only : goal.returns-in-Ok-false-clause-only
returns-in-Ok-false-clause-only c = λ x t. only_no {X = LogHead} FitsLog log_line (drop 1 c.args.bytes.now) (log_at (behind (take (length c.args.bytes.now - 1) c.args.bytes.now))) c.in-Ok.head x c.in-Ok-false.field-0 c.in-Ok.ensures (rw (take_rest c.args.bytes.now 1) at c.in-Ok-false.ensures) c.in-Ok-false.field-0-test (log_line_again c.args.bytes.now x c.requires t.fit t.text) t
