use Rattle.std.proofs.Common.{sym, ap, ◌∙◌}
use Rattle.std.proofs.lemmas.Bool.{and_from, and_right}
use Rattle.tx_events.specs.After.{after_record}
use Rattle.wal_core.specs.BaseTest.{is_base_of}
use Rattle.wal_core.specs.Opening.{next_number, number_fits}
use Rattle.wal_core.specs.SoFar.{history_read}
use Rattle.wal_core.proofs.BaseTests.{base_answer}
use Rattle.wal_core.proofs.batch_records.join_rec.Goals as goal

pub returns-then-not-is_base-clause-may_not : goal.returns-then-not-is_base-clause-may_not
returns-then-not-is_base-clause-may_not c said =
    let h = history_read c.args.past.now in
    and_right (number_fits (next_number h) c.args.rec) (is_base_of (after_record h.counters c.args.rec))
    (ap is_base_of (sym c.in-Some.ensures.some) ∙ sym (base_answer c.is_base.result c.in-Some.counters c.is_base.ensures) ∙ c.if-not-is_base.true)

pub returns-clause-may : goal.returns-clause-may
returns-clause-may c said =
    let h = history_read c.args.past.now in
    and_from (number_fits (next_number h) c.args.rec) (is_base_of (after_record h.counters c.args.rec)) (sym c.has_next_number.ensures ∙ c.if-not-has_next_number.false)
    (ap is_base_of (sym c.in-Some.ensures.some) ∙ sym (base_answer c.is_base.result c.in-Some.counters c.is_base.ensures) ∙ c.if-not-is_base.false)
