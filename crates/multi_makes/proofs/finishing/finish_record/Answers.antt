use Rattle.std.proofs.Common.{◌≡◌, Err, None, Option, Result, sym, ap, subst, ◌∙◌}
use Rattle.hall.specs.Calls.{view, start_of}
use Rattle.tx_events.specs.declared.refusal.Refusal.{Refusal}
use Rattle.engine_parts.specs.declared.session.Making.{Making}
use Rattle.engine_parts.specs.declared.session.Session.{Session}
use Rattle.engine_parts.specs.Adding.{IsOfMulti, IsPlain, MayAdd, MayMeet}
use Rattle.engine_parts.specs.Makings.{Makes}
use Rattle.engine_parts.specs.Sessions.{by_at}
use Rattle.engine_parts.proofs.Adding.{plain_wider}
use Rattle.multi_makes.specs.Pending.{IsMultiFault, IsPending, IsRecDone}
use Rattle.log_sections.specs.Rooms.{IsOneOrBefore}
use Rattle.log_sections.proofs.Rooms.{met_never}
use Rattle.multi_makes.proofs.Announcing.{fault_wider, told_wider}
use Rattle.multi_makes.proofs.Going.{visited_then, visited_wider}
use Rattle.multi_makes.proofs.Making.{call_over, done_pending, pending_logged, recorded_of, same_logged}
use Rattle.multi_makes.proofs.finishing.finish_record.Goals as goal

pub set_pending-requires-clause-recorded : goal.set_pending-requires-clause-recorded
set_pending-requires-clause-recorded g c =
    let start = start_of c.args.hall.now in
    let old = c.args.caller.now in
    let w = c.log_pending.new.caller in
    recorded_of start (view w.pass).seen w.number old.session.making c.args.rec.now
    (subst (λ (s : Session). Makes start (view w.pass).seen w.number s.making) c.in-Ok.ensures.logs c.log_pending.ensures.visited.step.may.ready.at.makes) c.requires.record

pub returns-in-Ok-set_pending-clause-visited : goal.returns-in-Ok-set_pending-clause-visited
returns-in-Ok-set_pending-clause-visited g c =
    let hall = c.args.hall.now in
    let start = start_of hall in
    let old = c.args.caller.now in
    let w = c.log_pending.new.caller in
    let x = c.set_pending.new.caller in
    let rec = c.args.rec.now in
    let logs = c.in-Ok.ensures.logs in
    let same : x.session.making ≡ _ = ap (λ (s : Session). s.making) (c.set_pending.ensures.session ∙ logs) in
    let pending : IsPending x.session.making rec = subst (λ (o : Option Making). IsPending o rec) (sym same) (pending_logged old.session.making rec c.requires.record) in
    let v = c.in-Ok-set_pending.ensures.visited in
    let done : IsRecDone start (view x.pass).seen x.number rec = subst (λ z. IsRecDone start (view x.pass).seen z rec) (sym v.number) c.in-Ok-set_pending.ensures.done in
    let both = visited_then hall c.args.banks (MayAdd IsOfMulti ⊥ (λ r. ⊥)) IsPlain (MayAdd IsOfMulti ⊥ (λ r. ⊥)) old w x (same_logged old.session w.session logs) (λ lock kind m. m) (plain_wider IsOfMulti ⊥ (λ r. ⊥)) c.log_pending.ensures.visited v in
    record {
      step = record { own = both.step.own; laid = both.step.laid; each = both.step.each; may = call_over start (view x.pass) x.number x.session rec both.step.may pending done };
      went = both.went;
      adds = both.adds;
      number = both.number;
    }

pub returns-in-Err-set_pending-clause-visited : goal.returns-in-Err-set_pending-clause-visited
returns-in-Err-set_pending-clause-visited g c =
    let hall = c.args.hall.now in
    let old = c.args.caller.now in
    let w = c.log_pending.new.caller in
    let x = c.set_pending.new.caller in
    let r = c.in-Err-set_pending.refusal in
    visited_then hall c.args.banks (MayAdd IsOfMulti ⊥ (λ q. ⊥)) (MayMeet r) (MayAdd IsOfMulti ⊥ (λ q. r ≡ q)) old w x (same_logged old.session w.session c.in-Ok.ensures.logs) (told_wider {T = Unit {0}} (Err r)) (fault_wider {T = Unit {0}} (Err r)) c.log_pending.ensures.visited c.in-Err-set_pending.ensures.visited

pub returns-in-Err-clause-visited : goal.returns-in-Err-clause-visited
returns-in-Err-clause-visited g c =
    let r = c.in-Err.refusal in
    visited_wider c.args.hall.now c.args.banks (MayAdd IsOfMulti ⊥ (λ q. ⊥)) (MayAdd IsOfMulti ⊥ (λ q. r ≡ q)) c.args.caller.now c.log_pending.new.caller (told_wider {T = Unit {0}} (Err r)) c.log_pending.ensures.visited

pub returns-in-Ok-set_pending-clause-finishes : goal.returns-in-Ok-set_pending-clause-finishes
returns-in-Ok-set_pending-clause-finishes g c =
    let start = start_of c.args.hall.now in
    let old = c.args.caller.now in
    let x = c.set_pending.new.caller in
    let rec = c.args.rec.now in
    let done : IsRecDone start (view x.pass).seen old.number rec = subst (λ z. IsRecDone start (view x.pass).seen z rec) c.log_pending.ensures.visited.number c.in-Ok-set_pending.ensures.done in
    (ap (λ (s : Session). record s { making = None }) (c.set_pending.ensures.session ∙ c.in-Ok.ensures.logs), done_pending start (view x.pass).seen old.number old.session.making rec c.requires.record done)

pub returns-in-Err-set_pending-clause-full : goal.returns-in-Err-set_pending-clause-full
returns-in-Err-set_pending-clause-full g c =
    let start = start_of c.args.hall.now in
    let old = c.args.caller.now in
    let w = c.log_pending.new.caller in
    let x = c.set_pending.new.caller in
    let seen = (view x.pass).seen in
    let by = by_at old.number old.session.levels.commands in
    let refused : Result (Unit {0}) Refusal = Err c.in-Err-set_pending.refusal in
    met_never start seen by (IsOneOrBefore start seen by (IsPending x.session.making)) (IsMultiFault seen (by_at w.number w.session.levels.commands)) refused c.in-Err-set_pending.ensures.fault (λ none. none)
