use Rattle.std.proofs.Common.{◌≡◌, ◌+◌, ◌-◌, ◌<◌, suc, arith, get_or, length, map, refl, subst, sym, take}
use Rattle.std.proofs.lemmas.Option.{slice_get-get_or}
use Rattle.tx_events.specs.declared.event.By.{By}
use Rattle.tx_events.specs.Events.{by_of}
use Rattle.place_columns.specs.Owned.{IsReadFrom}
use Rattle.place_rules.proofs.Counting.{of_last, of_none, of_start}
use Rattle.place_rules.proofs.Earlier.{in_turn, read_end}
use Rattle.place_rules.proofs.open.open_before.Goals as goal

pub returns-then-by-eq0 : goal.returns-then-by-eq0
returns-then-by-eq0 g c = sym (of_none (take c.args.to g.life.events) c.args.by c.if-by-eq0.true)

pub read_from-end-requires : goal.read_from-end-requires
read_from-end-requires g c = (c.requires.0, in_turn g.life.base g.life.events c.requires.1.0)

pub returns-then-end-eq0 : goal.returns-then-end-eq0
returns-then-end-eq0 g c =
    let earlier : By = record { session = c.args.by.session; command = c.args.by.command - 1 } in
    let some = c.if-by-eq0.false in
    let next : c.args.by.command - 1 + 1 ≡ c.args.by.command = omega arith in
    let is : IsReadFrom (map by_of g.life.events) earlier c.args.to 0 = subst (IsReadFrom (map by_of g.life.events) earlier c.args.to) c.if-end-eq0.true c.read_from-end.ensures in
    sym (of_start g.life.base g.life.events c.args.by earlier c.args.to c.requires.1.0 c.requires.1.1.1 refl next is)

pub returns : goal.returns
returns g c =
    let earlier : By = record { session = c.args.by.session; command = c.args.by.command - 1 } in
    let some = c.if-by-eq0.false in
    let next : c.args.by.command - 1 + 1 ≡ c.args.by.command = omega arith in
    let n = c.read_from-end.result - 1 in
    let more = c.if-end-eq0.false in
    let z : c.read_from-end.result ≡ suc n = omega arith in
    let end = read_end earlier (map by_of g.life.events) c.args.to c.read_from-end.result c.read_from-end.ensures in
    let size = c.requires.1.1.0.size in
    let within = c.requires.1.1.1 in
    let inside : n < length c.args.counts.now = omega arith in
    let is : IsReadFrom (map by_of g.life.events) earlier c.args.to (suc n) = subst (IsReadFrom (map by_of g.life.events) earlier c.args.to) z c.read_from-end.ensures in
    of_last g.life.base g.life.events c.args.counts.now c.args.by earlier c.args.to n (get_or c.args.counts.now n 0) c.requires.1.0 c.requires.1.1.0 within refl next is (slice_get-get_or c.args.counts.now n 0 inside)
