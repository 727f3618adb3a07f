use Rattle.std.proofs.Common.{List, map, refl, subst, sym, take}
use Rattle.tx_events.specs.declared.event.Event.{Event}
use Rattle.tx_events.specs.Events.{by_of}
use Rattle.report_law.specs.Events.{IsCommitLogged}
use Rattle.report_law.specs.Places.{IsNotLate}
use Rattle.event_rules.proofs.Joining.{number_read, read_at, read_is, whole_event}
use Rattle.event_rules.proofs.events.is_its_event.Goals as goal

pub returns-then-not-stands : goal.returns-then-not-stands
returns-then-not-stands g c = λ e at.
    let r = c.requires in
    let number = number_read by_of g.j.steps c.args.table.now c.args.own.now c.args.events.now g.j.life.events c.args.place c.number_at-number.result e
    r.0 r.1.1.0 r.1.1.1.0 c.number_at-number.ensures.number r.1.1.1.1.1.1 (read_at c.args.events.now c.args.place e at) in
    (λ y. absurd cc, λ i. (c.if-not-stands.ensures (by_of e) number).1 i.command)

pub returns-then-not-is_in_time : goal.returns-then-not-is_in_time
returns-then-not-is_in_time g c = λ e at.
    let r = c.requires in
    let number = number_read by_of g.j.steps c.args.table.now c.args.own.now c.args.events.now g.j.life.events c.args.place c.number_at-number.result e
    r.0 r.1.1.0 r.1.1.1.0 c.number_at-number.ensures.number r.1.1.1.1.1.1 (read_at c.args.events.now c.args.place e at) in
    (λ y. absurd cc, λ i. (c.if-not-is_in_time.ensures g.j.steps (by_of e) r.0 number).1 (subst (λ (t : List Event). IsNotLate g.j.steps (map by_of (take c.args.place t)) (by_of e)) (sym r.1.1.1.0) i.in_time))

pub returns-then-not-is_commit_logged : goal.returns-then-not-is_commit_logged
returns-then-not-is_commit_logged g c = λ e at.
    let r = c.requires in
    let same = read_is c.args.events.now c.args.place c.index-events-place.result e r.1.1.1.1.1.1 c.index-events-place.is at in
    (λ y. absurd cc, λ i. c.if-not-is_commit_logged.ensures.1 (subst (λ (x : Event). IsCommitLogged g.j x) (sym same) i.logged))

pub returns : goal.returns
returns g c = λ e at.
    let r = c.requires in
    let ev = c.index-events-place.result in
    let number = number_read by_of g.j.steps c.args.table.now c.args.own.now c.args.events.now g.j.life.events c.args.place c.number_at-number.result ev
    r.0 r.1.1.0 r.1.1.1.0 c.number_at-number.ensures.number r.1.1.1.1.1.1 c.index-events-place.is in
    whole_event g.j c.args.place c.args.events.now ev e (by_of ev) c.is_told_at.result
    r.1.1.1.0 at r.1.1.1.1.1.1 c.index-events-place.is refl ((c.if-not-stands.ensures (by_of ev) number).0 refl)
    ((c.if-not-is_in_time.ensures g.j.steps (by_of ev) r.0 number).0 refl) (c.if-not-is_commit_logged.ensures.0 refl) c.is_told_at.ensures
