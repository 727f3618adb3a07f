use Rattle.std.proofs.Common.{◌-◌, Ok, Option, length, arith}
use Rattle.std.proofs.lemmas.Result.{err_from_is_err_and}
use Rattle.wal_core.specs.Opening.{History}
use Rattle.wal_core.specs.SoFar.{history_read, joins}
use Rattle.wal_core.proofs.Bodies.{joins_go_on, joins_break, joins_stop, joins_done, joins_left, empty_length, some_length}
use Rattle.wal_core.proofs.batch_records.read_more.Goals as goal

pub returns-then-is_empty : goal.returns-then-is_empty
returns-then-is_empty c =
    let total : Option History = joins c.args.count c.args.bytes.now (history_read c.args.past) in
    joins_done (c.args.count - c.loop.counter) c.loop.rest.now (history_read c.loop.past) total (empty_length c.is_empty.result (length c.loop.rest.now) c.is_empty.ensures c.if-is_empty.true) c.loop.invariant

pub returns-in_err-rec : goal.returns-in_err-rec
returns-in_err-rec c =
    let total : Option History = joins c.args.count c.args.bytes.now (history_read c.args.past) in
    let p = err_from_is_err_and c.from_residual.result c.from_residual.ensures.1 in
    rw (p.1, p.2) (joins_stop c.in_err-rec.field-0.0 c.args.count c.loop.counter c.loop.rest.now (history_read c.loop.past) total c.loop-test.true
    (some_length c.is_empty.result (length c.loop.rest.now) c.is_empty.ensures c.if-is_empty.false) c.in_err-rec.ensures c.loop.invariant)

pub returns-then-not-branch : goal.returns-then-not-branch
returns-then-not-branch c =
    let total : Option History = joins c.args.count c.args.bytes.now (history_read c.args.past) in
    joins_break c.args.count c.loop.counter c.loop.rest.now (history_read c.loop.past) c.in_ok-rec.rec c.take_rec.new.rest.now total c.loop-test.true c.in_ok-rec.ensures
    (c.in_ok-join_rec.ensures.may_not (λ i. Ok (c.if-not-branch.true i))) c.loop.invariant

pub loop-preserved : goal.loop-preserved
loop-preserved c =
    let total : Option History = joins c.args.count c.args.bytes.now (history_read c.args.past) in
    joins_go_on c.args.count c.loop.counter c.loop.rest.now (history_read c.loop.past) (history_read c.join_rec.new.past) c.in_ok-rec.rec c.take_rec.new.rest.now total c.loop-test.true c.in_ok-rec.ensures
    (c.in_ok-join_rec.ensures.may (λ i. Ok (c.if-not-branch.false i))) (c.in_ok-join_rec.ensures.joins (λ i. Ok (c.if-not-branch.false i))) c.loop.invariant

pub returns-then-not-is_empty : goal.returns-then-not-is_empty
returns-then-not-is_empty c =
    let total : Option History = joins c.args.count c.args.bytes.now (history_read c.args.past) in
    joins_left (c.args.count - c.loop.counter) c.loop.rest.now (history_read c.loop.past) total (omega arith)
    (some_length c.is_empty-2.result (length c.loop.rest.now) c.is_empty-2.ensures c.if-not-is_empty.true) c.loop.invariant

pub returns : goal.returns
returns c =
    let total : Option History = joins c.args.count c.args.bytes.now (history_read c.args.past) in
    joins_done (c.args.count - c.loop.counter) c.loop.rest.now (history_read c.loop.past) total (empty_length c.is_empty-2.result (length c.loop.rest.now) c.is_empty-2.ensures c.if-not-is_empty.false) c.loop.invariant
