use Rattle.std.proofs.Common.{◌≡◌, ◌++◌, ◌∷◌, [], arith}
use Rattle.std.proofs.lemmas.Result.{err_from_is_err_and}
use Rattle.wal_records.specs.Reading.{ids_at}
use Rattle.wal_records.proofs.Loop.{ids_go_on, ids_end, ids_break, ids_done}
use Rattle.wal_records.proofs.reading.ids_from.Goals as goal

pub returns-in_err-id : goal.returns-in_err-id
returns-in_err-id c =
    let p = err_from_is_err_and c.from_residual.result c.from_residual.ensures.1 in
    rw (p.1, p.2) (ids_end c.in_err-id.field-0.0 c.loop.ids c.args.count c.loop.counter c.loop.below c.loop.rest.now (ids_at c.args.count c.args.last c.args.rest.now.now) c.loop-test.true c.in_err-id.ensures c.loop.invariant)

pub returns-then-number-below : goal.returns-then-number-below
returns-then-number-below c =
    ids_break c.loop.ids c.args.count c.loop.counter c.loop.below c.loop.rest.now c.in_ok-id.id c.xid_at.new.rest.now (ids_at c.args.count c.args.last c.args.rest.now.now) c.loop-test.true c.in_ok-id.ensures (omega (arith, c.number.ensures.value)) c.loop.invariant

pub loop-preserved : goal.loop-preserved
loop-preserved c =
    let e : c.push.new.self ≡ c.loop.ids ++ c.in_ok-id.id ∷ [] = c.in_ok-push.ensures.ok in
    rw (e, c.number-below.ensures.value) (ids_go_on c.loop.ids c.args.count c.loop.counter c.loop.below c.loop.rest.now c.in_ok-id.id c.xid_at.new.rest.now (ids_at c.args.count c.args.last c.args.rest.now.now) c.loop-test.true c.in_ok-id.ensures (omega (arith, c.number.ensures.value, c.if-number-below.false)) c.loop.invariant)

pub returns : goal.returns
returns c = ids_done c.loop.ids c.args.count c.loop.counter c.loop.below c.loop.rest.now (ids_at c.args.count c.args.last c.args.rest.now.now) c.loop-test.false c.loop.invariant
