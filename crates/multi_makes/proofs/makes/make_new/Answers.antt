use Rattle.std.proofs.Common.{◌≡◌, ℕ, ◌<◌, [], Err, Result, length, inl, ap, subst, ◌∙◌, arith}
use Rattle.hall.specs.Calls.{view, start_of}
use Rattle.tx_events.specs.declared.refusal.Refusal.{Refusal}
use Rattle.tx_events.proofs.IdOrder.{nth_from}
use Rattle.tx_events.specs.Events.{given}
use Rattle.tx_events.specs.Horizon.{oldest_id}
use Rattle.tx_core.specs.Entries.{history}
use Rattle.tx_core.proofs.StopLimits.{next_within, stop_upto}
use Rattle.engine_parts.specs.declared.session.Session.{Session}
use Rattle.engine_parts.specs.Adding.{IsOfMulti, IsPlain, IsToldBy, MayAdd}
use Rattle.engine_parts.specs.Sessions.{by_at}
use Rattle.engine_parts.proofs.Adding.{adds_wider, plain_wider}
use Rattle.engine_parts.proofs.Sectioning.{same_command}
use Rattle.engine_parts.proofs.Unmoved.{look_adds}
use Rattle.log_sections.specs.Rooms.{IsOneOrBefore}
use Rattle.log_sections.proofs.Rooms.{met_for_then, met_never}
use Rattle.multi_makes.specs.Full.{AreFullOf, AreNotFull}
use Rattle.multi_makes.specs.Makes.{MakesOf}
use Rattle.multi_makes.specs.Pending.{IsPending}
use Rattle.multi_makes.proofs.Going.{both_add, same_making, step_of, went_none}
use Rattle.multi_makes.proofs.Outcomes.{new_of}
use Rattle.multi_makes.proofs.Reading.{full_each, full_fit}
use Rattle.multi_makes.proofs.makes.make_new.Goals as goal

pub full_members-requires-clause-from : goal.full_members-requires-clause-from
full_members-requires-clause-from g c =
    let u = c.read_horizons-found.new.caller in
    let e = c.read_horizons-found.ensures in
    let start = start_of c.args.hall.now in
    let full = e.ready.at.base.full in
    let more = nth_from start.base.next (length (given (history (view u.pass).seen))) in
    let next = e.horizons.next in
    omega arith

pub full_members-requires-clause-to : goal.full_members-requires-clause-to
full_members-requires-clause-to g c =
    let u = c.read_horizons-found.new.caller in
    let e = c.read_horizons-found.ensures in
    let start = start_of c.args.hall.now in
    let h = history (view u.pass).seen in
    let within = next_within start.base e.ready.at.base h e.ready.at.kept.events.legal in
    let upto = stop_upto (oldest_id start.base.oldest h) in
    let next = e.horizons.next in
    omega arith

pub make_of-requires-clause-step : goal.make_of-requires-clause-step
make_of-requires-clause-step g c =
    let old = c.args.caller.now in
    let u = c.read_horizons-found.new.caller in
    let e = c.read_horizons-found.ensures in
    step_of c.args.hall.now c.args.banks old u [] c.requires.step e.own e.ready (went_none old.number (view old.pass).seen (view u.pass).seen e.went) e.same.1 (same_making old.session u.session e.same.0)

pub make_of-requires-clause-members : goal.make_of-requires-clause-members
make_of-requires-clause-members g c = full_fit c.read_horizons-found.result.next c.args.pairs.now c.in-Ok.members c.requires.words c.in-Ok.ensures

pub make_of-requires-clause-full : goal.make_of-requires-clause-full
make_of-requires-clause-full g c = λ id among. (full_each c.read_horizons-found.result.next c.args.pairs.now c.in-Ok.members c.in-Ok.ensures id among).0

pub make_of-requires-clause-before : goal.make_of-requires-clause-before
make_of-requires-clause-before g c = λ id among. subst (λ z. id < z) c.read_horizons-found.ensures.horizons.next (full_each c.read_horizons-found.result.next c.args.pairs.now c.in-Ok.members c.in-Ok.ensures id among).1

pub returns-in-Ok-clause-adds : goal.returns-in-Ok-clause-adds
returns-in-Ok-clause-adds g c =
    let start = start_of c.args.hall.now in
    let old = c.args.caller.now in
    let u = c.read_horizons-found.new.caller in
    let x = c.make_of.new.caller in
    let e = c.read_horizons-found.ensures in
    let r = c.make_of.result in
    both_add (by_at old.number old.session.levels.commands) (by_at u.number u.session.levels.commands) IsPlain (MayAdd IsOfMulti ⊥ (IsToldBy r)) (MayAdd IsOfMulti ⊥ (IsToldBy r)) (view old.pass).seen (view u.pass).seen (view x.pass).seen (same_command old.number u.number old.session u.session e.same.1 e.same.0)
    (plain_wider IsOfMulti ⊥ (IsToldBy r)) (λ lock kind m. m)
    (look_adds start (view old.pass) (view u.pass) old.number old.session IsPlain c.requires.step.may.ready.at (λ number. tt) tt e.section)
    c.make_of.ensures.adds

pub returns-in-Ok-clause-makes : goal.returns-in-Ok-clause-makes
returns-in-Ok-clause-makes g c =
    let start = start_of c.args.hall.now in
    let old = c.args.caller.now in
    let u = c.read_horizons-found.new.caller in
    let x = c.make_of.new.caller in
    let e = c.read_horizons-found.ensures in
    let members = c.in-Ok.members in
    new_of start old.number old.session x.session c.args.pairs.now members (view old.pass).seen (view u.pass).seen (view x.pass).seen (went_none old.number (view old.pass).seen (view u.pass).seen e.went)
    (subst (λ z. AreFullOf z c.args.pairs.now members) e.horizons.next c.in-Ok.ensures) c.make_of.result
    (subst (λ (z : ℕ × Session). MakesOf start z.0 z.1 x.session members (view u.pass).seen (view x.pass).seen c.make_of.result) (λ j. (e.same.1 j, e.same.0 j)) c.make_of.ensures.makes)

pub returns-in-Err-clause-step : goal.returns-in-Err-clause-step
returns-in-Err-clause-step g c =
    let old = c.args.caller.now in
    let u = c.read_horizons-found.new.caller in
    let e = c.read_horizons-found.ensures in
    step_of c.args.hall.now c.args.banks old u [] c.requires.step e.own e.ready (went_none old.number (view old.pass).seen (view u.pass).seen e.went) e.same.1 (same_making old.session u.session e.same.0)

pub returns-in-Err-clause-adds : goal.returns-in-Err-clause-adds
returns-in-Err-clause-adds g c =
    let old = c.args.caller.now in
    let u = c.read_horizons-found.new.caller in
    let r = c.in-Err.refusal in
    adds_wider (by_at old.number old.session.levels.commands) IsPlain (MayAdd IsOfMulti ⊥ (λ q. r ≡ q)) (view old.pass).seen (view u.pass).seen (plain_wider IsOfMulti ⊥ (λ q. r ≡ q))
    (look_adds (start_of c.args.hall.now) (view old.pass) (view u.pass) old.number old.session IsPlain c.requires.step.may.ready.at (λ number. tt) tt c.read_horizons-found.ensures.section)

pub returns-in-Err-clause-makes : goal.returns-in-Err-clause-makes
returns-in-Err-clause-makes g c =
    let old = c.args.caller.now in
    let u = c.read_horizons-found.new.caller in
    let e = c.read_horizons-found.ensures in
    inl (
      ap (λ z. z.making) e.same.0 ∙ c.requires.free,
      went_none old.number (view old.pass).seen (view u.pass).seen e.went,
      inl (subst (λ (z : ℕ × ℕ). AreNotFull z.0 z.1 c.args.pairs.now c.in-Err.refusal) (λ j. (e.horizons.next j, e.horizons.oldest j)) c.in-Err.ensures),
    )

pub returns-in-Ok-clause-full : goal.returns-in-Ok-clause-full
returns-in-Ok-clause-full g c =
    let old = c.args.caller.now in
    let u = c.read_horizons-found.new.caller in
    let x = c.make_of.new.caller in
    let e = c.read_horizons-found.ensures in
    met_for_then (start_of c.args.hall.now) (view x.pass).seen (by_at u.number u.session.levels.commands) (by_at old.number old.session.levels.commands) (IsPending x.session.making) (IsPending x.session.making) c.make_of.result
    (same_command old.number u.number old.session u.session e.same.1 e.same.0) (λ z of. of) c.make_of.ensures.full

pub returns-in-Err-clause-full : goal.returns-in-Err-clause-full
returns-in-Err-clause-full g c =
    let start = start_of c.args.hall.now in
    let old = c.args.caller.now in
    let by = by_at old.number old.session.levels.commands in
    let u = c.read_horizons-found.new.caller in
    let found = c.read_horizons-found.result in
    let refused : Result (Unit {0}) Refusal = Err c.in-Err.refusal in
    met_never start (view u.pass).seen by (IsOneOrBefore start (view u.pass).seen by (IsPending u.session.making)) (AreNotFull found.next found.oldest c.args.pairs.now) refused c.in-Err.ensures (λ none. none.refused)
