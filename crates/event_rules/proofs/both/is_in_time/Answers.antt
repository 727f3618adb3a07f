use Rattle.std.proofs.Common.{Some, None, ◌∙◌, refl, sym}
use Rattle.event_rules.proofs.Stepping.{time_free, time_told, same_table}
use Rattle.event_rules.proofs.both.is_in_time.Goals as goal

pub returns-in-Some : goal.returns-in-Some
returns-in-Some g c = λ steps by is number.
    let table = c.args.table.now in
    time_told g.E.Owned.by steps table c.args.own.now c.args.events.now c.args.place by c.latest_at.result c.in-Some.line is c.requires.numbers c.latest_at.ensures
    (same_table table table c.args.number by (Some c.in-Some.line) refl number (sym c.line.ensures ∙ c.in-Some.is))

pub returns-in-None : goal.returns-in-None
returns-in-None g c = λ steps by is number.
    let table = c.args.table.now in
    time_free g.E.Owned.by steps table c.args.events.now c.args.place by is
    (same_table table table c.args.number by None refl number (sym c.line.ensures ∙ c.in-None.is))
