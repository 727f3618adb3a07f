use Rattle.std.proofs.Common.{List, map, refl, subst, sym, take}
use Rattle.tx_events.specs.declared.multi.MultiEvent.{MultiEvent}
use Rattle.tx_events.specs.Multis.{multi_by}
use Rattle.report_law.specs.Places.{IsNotLate}
use Rattle.event_rules.proofs.Joining.{number_read, read_at, whole_multi}
use Rattle.event_rules.proofs.multis.is_its_multi.Goals as goal

pub returns-then-not-stands : goal.returns-then-not-stands
returns-then-not-stands g c = λ e at.
    let r = c.requires in
    let read = read_at c.args.events.now c.args.place e at in
    let number = number_read multi_by g.j.steps c.args.table.now c.args.own.now c.args.events.now g.j.life.multis c.args.place c.number_at-number.result e
    r.0 r.1.0 r.1.1.0 c.number_at-number.ensures.number r.1.1.1.0 read in
    (λ y. absurd cc, λ i. (c.if-not-stands.ensures (multi_by e) number).1 i.command)

pub returns-then-not-is_in_time : goal.returns-then-not-is_in_time
returns-then-not-is_in_time g c = λ e at.
    let r = c.requires in
    let read = read_at c.args.events.now c.args.place e at in
    let number = number_read multi_by g.j.steps c.args.table.now c.args.own.now c.args.events.now g.j.life.multis c.args.place c.number_at-number.result e
    r.0 r.1.0 r.1.1.0 c.number_at-number.ensures.number r.1.1.1.0 read in
    (λ y. absurd cc, λ i. (c.if-not-is_in_time.ensures g.j.steps (multi_by e) r.0 number).1 (subst (λ (t : List MultiEvent). IsNotLate g.j.steps (map multi_by (take c.args.place t)) (multi_by e)) (sym r.1.1.0) i.in_time))

pub returns : goal.returns
returns g c = λ e at.
    let r = c.requires in
    let read = read_at c.args.events.now c.args.place e at in
    let number = number_read multi_by g.j.steps c.args.table.now c.args.own.now c.args.events.now g.j.life.multis c.args.place c.number_at-number.result e
    r.0 r.1.0 r.1.1.0 c.number_at-number.ensures.number r.1.1.1.0 read in
    whole_multi g.j c.args.place c.args.events.now e e (multi_by e) c.args.told r.1.1.0 at r.1.1.1.0 read refl
    ((c.if-not-stands.ensures (multi_by e) number).0 refl) ((c.if-not-is_in_time.ensures g.j.steps (multi_by e) r.0 number).0 refl) r.1.1.1.1
