use Rattle.std.proofs.Common.{drop, take, length, ◌-◌}
use Rattle.std.proofs.lemmas.List.{take_rest}
use Rattle.tx_events.specs.declared.event.Event.{Event}
use Rattle.report_lines.specs.Events.{event_at}
use Rattle.report_words.specs.Fits.{FitsEvent}
use Rattle.report_words.specs.Texts.{event_line}
use Rattle.report_lines.proofs.AgainEvents.{event_line_again}
use Rattle.report_words.specs.Words.{behind}
use Rattle.report_lines.proofs.Compared.{only_err, only_ok, only_no}
use Rattle.report_lines.proofs.event.read_event.Goals as goal

pub returns-in-Err-clause-only : goal.returns-in-Err-clause-only
returns-in-Err-clause-only c = λ x t. only_err {X = Event} (event_at c.args.names.now (behind (take (length c.args.bytes.now - 1) c.args.bytes.now))) c.in-Err.unread x c.in-Err.ensures (event_line_again c.args.names.now c.args.bytes.now x c.requires.names t.fit c.requires.some t.text)

pub returns-in-Ok-true-clause-found : goal.returns-in-Ok-true-clause-found
returns-in-Ok-true-clause-found c = (rw (take_rest c.args.bytes.now 1) at c.in-Ok-true.ensures).0 c.in-Ok-true.field-0-test

pub returns-in-Ok-true-clause-only : goal.returns-in-Ok-true-clause-only
returns-in-Ok-true-clause-only c = λ x t. only_ok {X = Event} (event_at c.args.names.now (behind (take (length c.args.bytes.now - 1) c.args.bytes.now))) c.in-Ok.event x c.in-Ok.ensures (event_line_again c.args.names.now c.args.bytes.now x c.requires.names t.fit c.requires.some t.text)

pub returns-in-Ok-false-clause-only : goal.returns-in-Ok-false-clause-only
returns-in-Ok-false-clause-only c = λ x t. only_no {X = Event} (FitsEvent c.args.names.now) (event_line c.args.names.now) (drop 1 c.args.bytes.now) (event_at c.args.names.now (behind (take (length c.args.bytes.now - 1) c.args.bytes.now))) c.in-Ok.event x c.in-Ok-false.field-0 c.in-Ok.ensures (rw (take_rest c.args.bytes.now 1) at c.in-Ok-false.ensures) c.in-Ok-false.field-0-test (event_line_again c.args.names.now c.args.bytes.now x c.requires.names t.fit c.requires.some t.text) t
