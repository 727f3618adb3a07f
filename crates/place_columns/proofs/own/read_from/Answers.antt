use Rattle.std.proofs.Common.{rules, of_calls, arith}
use Rattle.std.proofs.lemmas.Fn.{always_returns_same}
use Rattle.place_columns.specs.Owned.{is_upto}
use Rattle.place_columns.proofs.ReadFrom.{none_is, parted_in, place_below, some_is}
use Rattle.place_columns.proofs.own.read_from.Goals as goal

pub returns-then-count-eq0 : goal.returns-then-count-eq0
returns-then-count-eq0 g c =
    let point = c.partition_point-count.ensures.partitioned (is_upto c.args.by.command c.args.to) (always_returns_same _ _ _ (λ a r f k. search (rules, of_calls))) (parted_in c.args.by.session g.bys c.args.by.command c.args.to c.args.own.now c.requires.0 c.requires.1) in
    let zero = c.if-count-eq0.true in
    none_is g.bys c.args.by c.args.to c.args.own.now c.requires.0 (λ k d l m. point.1 k d (omega arith) m)

pub overflow_add-result : goal.overflow_add-result
overflow_add-result g c =
    let point = c.partition_point-count.ensures.partitioned (is_upto c.args.by.command c.args.to) (always_returns_same _ _ _ (λ a r f k. search (rules, of_calls))) (parted_in c.args.by.session g.bys c.args.by.command c.args.to c.args.own.now c.requires.0 c.requires.1) in
    let some = c.if-count-eq0.false in
    let below = place_below c.args.by.command c.args.to c.partition_point-count.result (record { command = 0; place = 0 }) c.args.own.now (omega arith) point.0 in
    omega arith

pub returns : goal.returns
returns g c =
    let point = c.partition_point-count.ensures.partitioned (is_upto c.args.by.command c.args.to) (always_returns_same _ _ _ (λ a r f k. search (rules, of_calls))) (parted_in c.args.by.session g.bys c.args.by.command c.args.to c.args.own.now c.requires.0 c.requires.1) in
    let some = c.if-count-eq0.false in
    some_is g.bys c.args.by c.args.to c.partition_point-count.result (record { command = 0; place = 0 }) c.args.own.now c.requires.0 c.partition_point-count.ensures.bound (omega arith) point.0 point.1
