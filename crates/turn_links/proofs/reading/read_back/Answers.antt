use Rattle.std.proofs.Common.{rules, of_calls, ◌-◌, ◌<◌, arith, length, nat_lt}
use Rattle.std.specs.List.{slice_index_or}
use Rattle.std.proofs.lemmas.Fn.{always_returns_same}
use Rattle.std.proofs.lemmas.Option.{slice_get-get_or}
use Rattle.place_columns.specs.declared.own.Own.{Own}
use Rattle.place_columns.proofs.ReadFrom.{none_is}
use Rattle.turn_links.proofs.Backwards.{before_parted, below_is, found_is, past_all, same_at}
use Rattle.turn_links.proofs.reading.read_back.Goals as goal

pub returns-then-count-eq0 : goal.returns-then-count-eq0
returns-then-count-eq0 g c =
    let point = c.partition_point-end.ensures.partitioned (λ (o : Own). nat_lt o.place c.args.to) (always_returns_same _ _ _ (λ a r f k. search (rules, of_calls))) (before_parted c.args.by.session g.bys c.args.to c.args.own.now c.requires.0) in
    let none = c.if-count-eq0.true in
    none_is g.bys c.args.by c.args.to c.args.own.now c.requires.0 (λ k d l m. past_all c.args.by.command c.args.to c.partition_point-end.result c.last_upto-count.result c.args.own.now point.1 c.last_upto-count.ensures.behind k d (omega arith) m)

pub overflow_add-result : goal.overflow_add-result
overflow_add-result g c =
    let point = c.partition_point-end.ensures.partitioned (λ (o : Own). nat_lt o.place c.args.to) (always_returns_same _ _ _ (λ a r f k. search (rules, of_calls))) (before_parted c.args.by.session g.bys c.args.to c.args.own.now c.requires.0) in
    let some = c.if-count-eq0.false in
    let within = c.last_upto-count.ensures.within in
    let none : Own = record { command = 0; place = 0 } in
    let below = below_is (slice_index_or c.args.own.now (c.last_upto-count.result - 1) none).place c.args.to (point.0 (c.last_upto-count.result - 1) none (omega arith) (omega arith)) in
    omega arith

pub returns : goal.returns
returns g c =
    let point = c.partition_point-end.ensures.partitioned (λ (o : Own). nat_lt o.place c.args.to) (always_returns_same _ _ _ (λ a r f k. search (rules, of_calls))) (before_parted c.args.by.session g.bys c.args.to c.args.own.now c.requires.0) in
    let some = c.if-count-eq0.false in
    let within = c.last_upto-count.ensures.within in
    let bound = c.partition_point-end.ensures.bound in
    let none : Own = record { command = 0; place = 0 } in
    let n = c.last_upto-count.result - 1 in
    let low : n < length c.args.own.now = omega arith in
    let o = slice_index_or c.args.own.now n none in
    found_is g.bys c.args.by c.args.to c.last_upto-count.result o c.args.own.now c.requires.0 (omega arith) (omega arith) (same_at c.args.own.now n none o low)
    (c.last_upto-count.ensures.upto o (omega arith) (slice_get-get_or c.args.own.now n none low)) (point.0 n none (omega arith) (omega arith))
    (past_all c.args.by.command c.args.to c.partition_point-end.result c.last_upto-count.result c.args.own.now point.1 c.last_upto-count.ensures.behind)
