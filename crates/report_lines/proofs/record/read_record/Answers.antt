use Rattle.std.proofs.Common.{drop, take, length, ◌-◌, arith}
use Rattle.std.proofs.lemmas.List.{take_rest}
use Rattle.tx_events.specs.declared.record.Rec.{Rec}
use Rattle.report_lines.specs.Records.{record_line_at}
use Rattle.report_words.specs.Fits.{FitsRecord}
use Rattle.report_words.specs.Texts.{record_line}
use Rattle.report_lines.proofs.AgainLines.{record_line_again}
use Rattle.report_words.specs.Words.{behind}
use Rattle.report_lines.proofs.Compared.{only_err, only_ok, only_no}
use Rattle.report_lines.proofs.record.read_record.Goals as goal

pub returns-in-Err-clause-only : goal.returns-in-Err-clause-only
returns-in-Err-clause-only c = λ x t. only_err {X = Rec} (record_line_at c.args.number (behind (take (length c.args.bytes.now - 1) c.args.bytes.now))) c.in-Err.unread x c.in-Err.ensures (record_line_again c.args.number c.args.bytes.now x (omega arith) c.requires t.fit t.text)

pub returns-in-Ok-true-clause-found : goal.returns-in-Ok-true-clause-found
returns-in-Ok-true-clause-found c = (rw (take_rest c.args.bytes.now 1) at c.in-Ok-true.ensures).0 c.in-Ok-true.field-0-test

pub returns-in-Ok-true-clause-only : goal.returns-in-Ok-true-clause-only
returns-in-Ok-true-clause-only c = λ x t. only_ok {X = Rec} (record_line_at c.args.number (behind (take (length c.args.bytes.now - 1) c.args.bytes.now))) c.in-Ok.rec x c.in-Ok.ensures (record_line_again c.args.number c.args.bytes.now x (omega arith) c.requires t.fit t.text)

pub returns-in-Ok-false-clause-only : goal.returns-in-Ok-false-clause-only
returns-in-Ok-false-clause-only c = λ x t. only_no {X = Rec} (FitsRecord c.args.number) (record_line c.args.number) (drop 1 c.args.bytes.now) (record_line_at c.args.number (behind (take (length c.args.bytes.now - 1) c.args.bytes.now))) c.in-Ok.rec x c.in-Ok-false.field-0 c.in-Ok.ensures (rw (take_rest c.args.bytes.now 1) at c.in-Ok-false.ensures) c.in-Ok-false.field-0-test (record_line_again c.args.number c.args.bytes.now x (omega arith) c.requires t.fit t.text) t
