use Rattle.std.proofs.Common.{drop, take, length, ◌-◌, arith}
use Rattle.std.proofs.lemmas.List.{take_rest}
use Rattle.report_lines.specs.declared.life.Start.{Start}
use Rattle.report_lines.specs.Records.{start_at}
use Rattle.report_lines.specs.Fits.{FitsStart}
use Rattle.report_lines.specs.Texts.{start_line}
use Rattle.report_lines.proofs.AgainLines.{start_line_again}
use Rattle.report_words.specs.Words.{behind}
use Rattle.report_lines.proofs.Compared.{only_err, only_ok, only_no}
use Rattle.report_lines.proofs.life.read_start.Goals as goal

pub returns-in-Err-clause-only : goal.returns-in-Err-clause-only
returns-in-Err-clause-only c = λ x t. only_err {X = Start} (start_at (behind (take (length c.args.bytes.now - 1) c.args.bytes.now))) c.in-Err.unread x c.in-Err.ensures (start_line_again c.args.number c.args.bytes.now x (omega arith) c.requires t.fit t.text)

pub returns-in-Ok-true-clause-found : goal.returns-in-Ok-true-clause-found
returns-in-Ok-true-clause-found c = (rw (take_rest c.args.bytes.now 1) at c.in-Ok-true.ensures).0 c.in-Ok-true.field-0-test

pub returns-in-Ok-true-clause-only : goal.returns-in-Ok-true-clause-only
returns-in-Ok-true-clause-only c = λ x t. only_ok {X = Start} (start_at (behind (take (length c.args.bytes.now - 1) c.args.bytes.now))) c.in-Ok.start x c.in-Ok.ensures (start_line_again c.args.number c.args.bytes.now x (omega arith) c.requires t.fit t.text)

pub returns-in-Ok-false-clause-only : goal.returns-in-Ok-false-clause-only
returns-in-Ok-false-clause-only c = λ x t. only_no {X = Start} FitsStart (start_line c.args.number) (drop 1 c.args.bytes.now) (start_at (behind (take (length c.args.bytes.now - 1) c.args.bytes.now))) c.in-Ok.start x c.in-Ok-false.field-0 c.in-Ok.ensures (rw (take_rest c.args.bytes.now 1) at c.in-Ok-false.ensures) c.in-Ok-false.field-0-test (start_line_again c.args.number c.args.bytes.now x (omega arith) c.requires t.fit t.text) t
