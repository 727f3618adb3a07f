use Rattle.std.proofs.Common.{◌∙◌, ap, arith, length-set, refl, set}
use Rattle.std.proofs.lemmas.List.{nil_from_length}
use Rattle.script_rounds.proofs.PlanLemmas.{last_known, listed_less, listed_none}
use Rattle.script_rounds.proofs.plan.Plan.clear.Goals as goal

pub loop-session-init : goal.loop-session-init
loop-session-init c = (c.requires, refl)

pub index_mut-requires : goal.index_mut-requires
index_mut-requires c =
    let known = last_known c.loop-session.self c.pop.new.self.items c.in-Some.session c.in-Some.ensures.items c.loop-session.invariant.0 in
    omega (arith, known)

pub loop-session-preserved : goal.loop-session-preserved
loop-session-preserved c =
    let p = c.loop-session.self in
    let s = c.in-Some.session in
    let i = c.loop-session.invariant in (
      listed_less p _ c.pop.new.self.items s c.in-Some.ensures.items refl (ap (set p.places.items s) c.clear.ensures) i.0,
      length-set p.places.items s c.clear.new.self ∙ i.1,
    )

pub returns-clause-blank : goal.returns-clause-blank
returns-clause-blank c =
    let p = c.loop-session.self in
    let none = c.in_default.ensures.cases in
    record {
      sessions = nil_from_length c.pop.new.self.items (omega (arith, none));
      places = (listed_none p (nil_from_length p.sessions.items (omega (arith, none))) c.loop-session.invariant.0).places;
    }

pub returns-clause-count : goal.returns-clause-count
returns-clause-count c = c.loop-session.invariant.1
