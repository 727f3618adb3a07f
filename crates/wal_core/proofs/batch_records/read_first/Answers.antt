use Rattle.std.proofs.Common.{Option, length, sym, subst}
use Rattle.std.proofs.lemmas.Result.{err_from_is_err_and}
use Rattle.wal_core.specs.Opening.{History}
use Rattle.wal_core.specs.SoFar.{history_read, GivesHistory}
use Rattle.wal_core.proofs.Bodies.{first_empty, first_stop, begin_stop, first_begins, empty_length, some_length}
use Rattle.wal_core.proofs.batch_records.read_first.Goals as goal

pub returns-then-is_empty : goal.returns-then-is_empty
returns-then-is_empty c = first_empty c.args.at c.args.body.now (empty_length c.is_empty.result (length c.args.body.now) c.is_empty.ensures c.if-is_empty.true)

pub returns-in_err-first : goal.returns-in_err-first
returns-in_err-first c =
    let p = err_from_is_err_and c.from_residual.result c.from_residual.ensures.1 in
    rw (p.1, p.2) (first_stop c.in_err-first.field-0.0 c.args.at c.args.body.now (some_length c.is_empty.result (length c.args.body.now) c.is_empty.ensures c.if-is_empty.false) c.in_err-first.ensures)

pub returns-in_err-past : goal.returns-in_err-past
returns-in_err-past c =
    let p = err_from_is_err_and c.from_residual-in_err-past.result c.from_residual-in_err-past.ensures.1 in
    rw (p.1, p.2) (begin_stop c.in_err-past.field-0.0 c.args.at c.args.body.now c.in_ok-first.first c.take_rec.new.rest.now (some_length c.is_empty.result (length c.args.body.now) c.is_empty.ensures c.if-is_empty.false)
    c.in_ok-first.ensures c.in_err-past.ensures)

pub returns : goal.returns
returns c =
    let some = some_length c.is_empty.result (length c.args.body.now) c.is_empty.ensures c.if-is_empty.false in
    subst (λ (o : Option History). GivesHistory c.read_more.result o)
    (sym (first_begins c.args.at c.args.body.now c.in_ok-first.first c.take_rec.new.rest.now (history_read c.in_ok-past.past) some c.in_ok-first.ensures c.in_ok-past.ensures)) c.read_more.ensures
