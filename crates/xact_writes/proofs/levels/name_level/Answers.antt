use Rattle.std.proofs.Common.{◌≡◌, inl, refl, subst}
use Rattle.hall.specs.Calls.{view, start_of}
use Rattle.tx_events.specs.declared.refusal.Refusal.TheVariants as refusals
use Rattle.engine_parts.specs.declared.session.Session.{Session}
use Rattle.engine_parts.specs.Adding.{Adds, IsPlain, MayMeet}
use Rattle.engine_parts.specs.Sessions.{by_at}
use Rattle.engine_parts.proofs.Adding.{adds_nothing}
use Rattle.engine_parts.proofs.Stepping.{went_nowhere}
use Rattle.xact_writes.specs.Writes.{HasReserved, IsAlike, IsWithout}
use Rattle.xact_writes.proofs.Alike.{alike_then, call_alike, later_alike}
use Rattle.xact_writes.proofs.levels.name_level.Goals as goal

-- the session whose lists have room
alike : (s s' : Session) → HasReserved s.levels s'.levels → s'.stage ≡ s.stage → s'.unlinked ≡ s.unlinked → s'.making ≡ s.making → IsAlike s s'
alike s s' l stage unlinked making = record { levels = l; stage = stage; unlinked = unlinked; making = making }

pub returns-in_default-clause-step : goal.returns-in_default-clause-step
returns-in_default-clause-step g c =
    let old = c.args.caller.now in
    record {
      own = c.requires.step.own;
      laid = c.requires.step.laid;
      each = c.requires.step.each;
      may = call_alike (start_of c.args.hall.now) (view old.pass) old.number old.session (record old.session { levels = c.make_room.new.levels }) c.requires.step.may (record { levels = c.in_default.ensures.reserved; stage = refl; unlinked = refl; making = refl });
    }

pub returns-in_default-clause-gives : goal.returns-in_default-clause-gives
returns-in_default-clause-gives g c = let old = c.args.caller.now in (went_nowhere old.number (view old.pass).seen, record { levels = c.in_default.ensures.reserved; stage = refl; unlinked = refl; making = refl }, inl (inl refl))

pub give_level-requires-clause-step : goal.give_level-requires-clause-step
give_level-requires-clause-step g c =
    let old = c.args.caller.now in
    record {
      own = c.requires.step.own;
      laid = c.requires.step.laid;
      each = c.requires.step.each;
      may = call_alike (start_of c.args.hall.now) (view old.pass) old.number old.session (record old.session { levels = c.make_room.new.levels }) c.requires.step.may (record { levels = c.in-Ok.ensures.reserved; stage = refl; unlinked = refl; making = refl });
    }

pub returns-in-Ok-give_level-clause-gives : goal.returns-in-Ok-give_level-clause-gives
returns-in-Ok-give_level-clause-gives g c =
    let old = c.args.caller.now in
    let u : Session = record old.session { levels = c.make_room.new.levels } in
    later_alike (start_of c.args.hall.now) old.number old.session u c.give_level.new.caller.session c.in-Ok-give_level.given.0 c.in-Ok-give_level.given.1 (view old.pass).seen (view c.give_level.new.caller.pass).seen
    (record { levels = c.in-Ok.ensures.reserved; stage = refl; unlinked = refl; making = refl }) c.in-Ok-give_level.ensures.gives

pub returns-in-Err-clause-gives : goal.returns-in-Err-clause-gives
returns-in-Err-clause-gives g c =
    let old = c.args.caller.now in
    let u : Session = record old.session { levels = c.make_room.new.levels } in
    let w = c.give_level.new.caller in
    let m = c.in-Err.ensures.gives in (
      m.0,
      alike_then old.session u w.session (record { levels = c.in-Ok.ensures.reserved; stage = refl; unlinked = refl; making = refl }) m.1,
      subst (λ z. IsWithout (start_of c.args.hall.now) (view w.pass).seen (by_at old.number z) c.in-Err.refusal) c.in-Ok.ensures.reserved.commands m.2,
    )

pub returns-in_default-clause-adds : goal.returns-in_default-clause-adds
returns-in_default-clause-adds g c = let old = c.args.caller.now in adds_nothing (by_at old.number old.session.levels.commands) (MayMeet refusals.Memory) (view old.pass).seen

pub returns-in-Ok-give_level-clause-adds : goal.returns-in-Ok-give_level-clause-adds
returns-in-Ok-give_level-clause-adds g c = let old = c.args.caller.now in subst (λ z. Adds (by_at old.number z) IsPlain (view old.pass).seen (view c.give_level.new.caller.pass).seen) c.in-Ok.ensures.reserved.commands c.in-Ok-give_level.ensures.adds

pub returns-in-Err-clause-adds : goal.returns-in-Err-clause-adds
returns-in-Err-clause-adds g c = let old = c.args.caller.now in subst (λ z. Adds (by_at old.number z) (MayMeet c.in-Err.refusal) (view old.pass).seen (view c.give_level.new.caller.pass).seen) c.in-Ok.ensures.reserved.commands c.in-Err.ensures.adds
