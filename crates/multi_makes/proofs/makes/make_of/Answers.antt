use Rattle.std.proofs.Common.{◌≡◌, [], Ok, Err, Result, length, inl, inr, refl, ap, subst, ◌∙◌, arith}
use Rattle.hall.specs.Calls.{view, start_of}
use Rattle.tx_events.specs.declared.event.By.{By}
use Rattle.tx_events.specs.declared.refusal.Refusal.{Refusal}
use Rattle.tx_core.specs.Locks.{multi_lock}
use Rattle.tx_core.specs.MultiEntries.{multi_history}
use Rattle.engine_parts.specs.Adding.{IsOfMulti, IsPlain, MayAdd}
use Rattle.engine_parts.specs.Sessions.{by_at}
use Rattle.engine_parts.proofs.Adding.{adds_wider, plain_wider}
use Rattle.engine_parts.proofs.Sectioning.{shared_adds}
use Rattle.log_sections.specs.Rooms.{IsOneOrBefore}
use Rattle.log_sections.proofs.Rooms.{met_for_then, met_never}
use Rattle.multi_sections.specs.Takings.{IsNotTaken}
use Rattle.multi_makes.specs.Pending.{IsPending, StopsMaking}
use Rattle.multi_makes.proofs.Announcing.{multi_look_adds}
use Rattle.multi_makes.proofs.Going.{both_add, command_kept, same_making, step_of}
use Rattle.multi_makes.proofs.Making.{same_taken}
use Rattle.multi_makes.proofs.Outcomes.{given_in, taken_done}
use Rattle.multi_makes.proofs.makes.make_of.Goals as goal

pub finish-requires : goal.finish-requires
finish-requires g c =
    let old = c.args.caller.now in
    let t = c.take_multi.new.caller in
    let e = c.take_multi.ensures in
    step_of c.args.hall.now c.args.banks old t _ c.requires.step e.own e.ready c.in-Ok.ensures.takes.0 e.number (same_taken old.session t.session c.args.members (Ok c.in-Ok.given) c.in-Ok.ensures.session)

pub returns-in-Ok-finish-clause-adds : goal.returns-in-Ok-finish-clause-adds
returns-in-Ok-finish-clause-adds g c =
    let start = start_of c.args.hall.now in
    let old = c.args.caller.now in
    let t = c.take_multi.new.caller in
    let x = c.finish.new.caller in
    let e = c.take_multi.ensures in
    let same = same_taken old.session t.session c.args.members (Ok c.in-Ok.given) c.in-Ok.ensures.session in
    let by = by_at old.number old.session.levels.commands in
    both_add by (by_at t.number t.session.levels.commands) IsPlain (MayAdd IsOfMulti ⊥ (λ r. ⊥)) (MayAdd IsOfMulti ⊥ (λ r. ⊥)) (view old.pass).seen (view t.pass).seen (view x.pass).seen (command_kept old.number t.number old.session t.session e.number same)
    (plain_wider IsOfMulti ⊥ (λ r. ⊥)) (λ lock kind m. m)
    (shared_adds start (view old.pass) (view t.pass) multi_lock _ by old.session IsPlain (omega arith) c.requires.step.may.ready.at c.in-Ok.ensures.section refl tt)
    c.in-Ok-finish.ensures.visited.adds

pub returns-in-Ok-finish-clause-makes : goal.returns-in-Ok-finish-clause-makes
returns-in-Ok-finish-clause-makes g c =
    let start = start_of c.args.hall.now in
    let old = c.args.caller.now in
    let t = c.take_multi.new.caller in
    let x = c.finish.new.caller in
    let e = c.take_multi.ensures in
    let f = c.in-Ok-finish.ensures in (
      ap (λ z. z.making) f.finishes.0,
      given_in start old.number t.number old.session c.args.members c.in-Ok.given (view old.pass).seen (view t.pass).seen (view x.pass).seen e.number c.in-Ok.ensures.takes f.visited.went,
      taken_done start (view x.pass).seen old.number t.number old.session t.session c.args.members c.in-Ok.given e.number c.in-Ok.ensures.session f.finishes.1,
    )

pub returns-in-Err-finish-clause-adds : goal.returns-in-Err-finish-clause-adds
returns-in-Err-finish-clause-adds g c =
    let start = start_of c.args.hall.now in
    let old = c.args.caller.now in
    let t = c.take_multi.new.caller in
    let x = c.finish.new.caller in
    let e = c.take_multi.ensures in
    let r = c.in-Err-finish.refusal in
    let same = same_taken old.session t.session c.args.members (Ok c.in-Ok.given) c.in-Ok.ensures.session in
    let by = by_at old.number old.session.levels.commands in
    both_add by (by_at t.number t.session.levels.commands) IsPlain (MayAdd IsOfMulti ⊥ (λ q. r ≡ q)) (MayAdd IsOfMulti ⊥ (λ q. r ≡ q)) (view old.pass).seen (view t.pass).seen (view x.pass).seen (command_kept old.number t.number old.session t.session e.number same)
    (plain_wider IsOfMulti ⊥ (λ q. r ≡ q)) (λ lock kind m. m)
    (shared_adds start (view old.pass) (view t.pass) multi_lock _ by old.session IsPlain (omega arith) c.requires.step.may.ready.at c.in-Ok.ensures.section refl tt)
    c.in-Err-finish.ensures.visited.adds

pub returns-in-Err-finish-clause-makes : goal.returns-in-Err-finish-clause-makes
returns-in-Err-finish-clause-makes g c =
    let start = start_of c.args.hall.now in
    let old = c.args.caller.now in
    let t = c.take_multi.new.caller in
    let x = c.finish.new.caller in
    let e = c.take_multi.ensures in
    let f = c.in-Err-finish.ensures in
    let same = same_taken old.session t.session c.args.members (Ok c.in-Ok.given) c.in-Ok.ensures.session in
    inr (
      f.finishes.2,
      c.in-Ok.given,
      given_in start old.number t.number old.session c.args.members c.in-Ok.given (view old.pass).seen (view t.pass).seen (view x.pass).seen e.number c.in-Ok.ensures.takes f.visited.went,
      subst (λ (b : By). StopsMaking start (view x.pass).seen b c.in-Err-finish.refusal) (command_kept old.number t.number old.session t.session e.number same) f.finishes.3,
    )

pub returns-in-Err-clause-step : goal.returns-in-Err-clause-step
returns-in-Err-clause-step g c =
    let old = c.args.caller.now in
    let t = c.take_multi.new.caller in
    let e = c.take_multi.ensures in
    step_of c.args.hall.now c.args.banks old t [] c.requires.step e.own e.ready c.in-Err.ensures.takes.0 e.number (same_making old.session t.session c.in-Err.ensures.session)

pub returns-in-Err-clause-adds : goal.returns-in-Err-clause-adds
returns-in-Err-clause-adds g c =
    let old = c.args.caller.now in
    let t = c.take_multi.new.caller in
    let r = c.in-Err.refusal in
    adds_wider (by_at old.number old.session.levels.commands) IsPlain (MayAdd IsOfMulti ⊥ (λ q. r ≡ q)) (view old.pass).seen (view t.pass).seen (plain_wider IsOfMulti ⊥ (λ q. r ≡ q))
    (multi_look_adds (start_of c.args.hall.now) (view old.pass) (view t.pass) old.number old.session c.requires.step.may.ready.at c.in-Err.ensures.section)

pub returns-in-Err-clause-makes : goal.returns-in-Err-clause-makes
returns-in-Err-clause-makes g c = inl (ap (λ z. z.making) c.in-Err.ensures.session ∙ c.requires.free, c.in-Err.ensures.takes.0, c.in-Err.ensures.takes.1)

pub returns-in-Err-finish-clause-full : goal.returns-in-Err-finish-clause-full
returns-in-Err-finish-clause-full g c =
    let old = c.args.caller.now in
    let t = c.take_multi.new.caller in
    let x = c.finish.new.caller in
    let same = same_taken old.session t.session c.args.members (Ok c.in-Ok.given) c.in-Ok.ensures.session in
    let refused : Result (Unit {0}) Refusal = Err c.in-Err-finish.refusal in
    met_for_then (start_of c.args.hall.now) (view x.pass).seen (by_at t.number t.session.levels.commands) (by_at old.number old.session.levels.commands) (IsPending x.session.making) (IsPending x.session.making) refused
    (command_kept old.number t.number old.session t.session c.take_multi.ensures.number same) (λ z of. of) c.in-Err-finish.ensures.full

pub returns-in-Err-clause-full : goal.returns-in-Err-clause-full
returns-in-Err-clause-full g c =
    let start = start_of c.args.hall.now in
    let old = c.args.caller.now in
    let by = by_at old.number old.session.levels.commands in
    let t = c.take_multi.new.caller in
    let seen = (view t.pass).seen in
    let refused : Result (Unit {0}) Refusal = Err c.in-Err.refusal in
    met_never start seen by (IsOneOrBefore start seen by (IsPending t.session.making)) (IsNotTaken start.base (multi_history seen) (length c.args.members)) refused c.in-Err.ensures.takes.1 (λ none. none)
