use Rattle.std.proofs.Common.{drop, take, length, ◌-◌}
use Rattle.std.proofs.lemmas.List.{take_rest}
use Rattle.tx_events.specs.declared.multi.MultiEvent.{MultiEvent}
use Rattle.report_lines.specs.Events.{multi_event_at}
use Rattle.report_words.specs.Fits.{FitsMultiEvent}
use Rattle.report_words.specs.Texts.{multi_line}
use Rattle.report_lines.proofs.AgainEvents.{multi_line_again}
use Rattle.report_words.specs.Words.{behind}
use Rattle.report_lines.proofs.Compared.{only_err, only_ok, only_no}
use Rattle.report_lines.proofs.multi.read_multi_event.Goals as goal

pub returns-in-Err-clause-only : goal.returns-in-Err-clause-only
returns-in-Err-clause-only c = λ x t. only_err {X = MultiEvent} (multi_event_at c.args.names.now (behind (take (length c.args.bytes.now - 1) c.args.bytes.now))) c.in-Err.unread x c.in-Err.ensures (multi_line_again c.args.names.now c.args.bytes.now x c.requires.names c.requires.some t.fit t.text)

pub returns-in-Ok-true-clause-found : goal.returns-in-Ok-true-clause-found
returns-in-Ok-true-clause-found c = (rw (take_rest c.args.bytes.now 1) at c.in-Ok-true.ensures).0 c.in-Ok-true.field-0-test

pub returns-in-Ok-true-clause-only : goal.returns-in-Ok-true-clause-only
returns-in-Ok-true-clause-only c = λ x t. only_ok {X = MultiEvent} (multi_event_at c.args.names.now (behind (take (length c.args.bytes.now - 1) c.args.bytes.now))) c.in-Ok.event x c.in-Ok.ensures (multi_line_again c.args.names.now c.args.bytes.now x c.requires.names c.requires.some t.fit t.text)

pub returns-in-Ok-false-clause-only : goal.returns-in-Ok-false-clause-only
returns-in-Ok-false-clause-only c = λ x t. only_no {X = MultiEvent} (FitsMultiEvent c.args.names.now) (multi_line c.args.names.now) (drop 1 c.args.bytes.now) (multi_event_at c.args.names.now (behind (take (length c.args.bytes.now - 1) c.args.bytes.now))) c.in-Ok.event x c.in-Ok-false.field-0 c.in-Ok.ensures (rw (take_rest c.args.bytes.now 1) at c.in-Ok-false.ensures) c.in-Ok-false.field-0-test (multi_line_again c.args.names.now c.args.bytes.now x c.requires.names c.requires.some t.fit t.text) t
