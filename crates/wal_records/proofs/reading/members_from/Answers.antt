use Rattle.std.proofs.Common.{◌≡◌, ◌++◌, ◌∷◌, []}
use Rattle.std.proofs.lemmas.Result.{err_from_is_err_and}
use Rattle.wal_records.specs.Reading.{members_at}
use Rattle.wal_records.proofs.Loop.{members_go_on, members_end, members_done}
use Rattle.wal_records.proofs.reading.members_from.Goals as goal

pub returns-in_err-one_member : goal.returns-in_err-one_member
returns-in_err-one_member c =
    let p = err_from_is_err_and c.from_residual-in_err-one_member.result c.from_residual-in_err-one_member.ensures.1 in
    rw (p.1, p.2) (members_end c.in_err-one_member.field-0.0 c.loop.members c.args.count c.loop.counter c.loop.rest.now (members_at c.args.count c.args.rest.now.now) c.loop-test.true c.in_err-one_member.ensures c.loop.invariant)

pub loop-preserved : goal.loop-preserved
loop-preserved c =
    let e : c.push.new.self ≡ c.loop.members ++ c.in_ok-one_member.field-0 ∷ [] = c.in_ok-push.ensures.ok in
    rw e (members_go_on c.loop.members c.args.count c.loop.counter c.loop.rest.now c.in_ok-one_member.field-0 c.one_member.new.rest.now (members_at c.args.count c.args.rest.now.now) c.loop-test.true c.in_ok-one_member.ensures c.loop.invariant)

pub returns : goal.returns
returns c =
    rw c.in_ok-of.ensures
    (members_done c.loop.members c.args.count c.loop.counter c.loop.rest.now (members_at c.args.count c.args.rest.now.now) c.loop-test.false c.loop.invariant)
