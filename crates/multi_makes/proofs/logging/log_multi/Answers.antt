use Rattle.std.proofs.Common.{◌≡◌, Err, Ok, Result, arith, refl, subst, sym}
use Rattle.hall.specs.Calls.{view, start_of}
use Rattle.tx_events.specs.declared.refusal.Refusal.{Refusal}
use Rattle.engine_parts.specs.declared.session.Session.{Session}
use Rattle.engine_parts.specs.Adding.{IsOfMulti, MayAdd}
use Rattle.engine_parts.specs.Sessions.{by_at}
use Rattle.engine_parts.proofs.Adding.{adds_wider}
use Rattle.engine_parts.proofs.Sectioning.{same_command}
use Rattle.log_sections.specs.declared.appending.Appended.{Appended}
use Rattle.log_sections.specs.MultiRecords.{TakesMulti}
use Rattle.log_sections.proofs.Added.{append_adds}
use Rattle.log_sections.proofs.Rooms.{found_no_base, met_for, met_for_then}
use Rattle.multi_makes.specs.Pending.{IsPending}
use Rattle.multi_makes.proofs.Announcing.{making_pending, record_wider, unlogged_same}
use Rattle.multi_makes.proofs.Going.{both_add, on_then}
use Rattle.multi_makes.proofs.logging.log_multi.Goals as goal

pub returns-in-Ok-At-clause-adds : goal.returns-in-Ok-At-clause-adds
returns-in-Ok-At-clause-adds g c =
    let old = c.args.caller.now in
    let t = c.append_multi.new.caller in
    let rec = c.args.rec.now in
    let by = by_at old.number old.session.levels.commands in
    adds_wider by (MayAdd (λ z. z ≡ rec) ⊥ (λ r. ⊥)) (MayAdd IsOfMulti ⊥ (λ r. ⊥)) (view old.pass).seen (view t.pass).seen (record_wider old.session.making rec c.requires.record)
    (append_adds (start_of c.args.hall.now) (view old.pass) (view t.pass) by old.session rec c.append_multi.result c.requires.may.ready.at c.append_multi.ensures.section)

pub returns-in-Err-clause-adds : goal.returns-in-Err-clause-adds
returns-in-Err-clause-adds g c =
    let old = c.args.caller.now in
    let t = c.append_multi.new.caller in
    let rec = c.args.rec.now in
    let by = by_at old.number old.session.levels.commands in
    adds_wider by (MayAdd (λ z. z ≡ rec) ⊥ (λ r. ⊥)) (MayAdd IsOfMulti ⊥ (λ r. ⊥)) (view old.pass).seen (view t.pass).seen (record_wider old.session.making rec c.requires.record)
    (append_adds (start_of c.args.hall.now) (view old.pass) (view t.pass) by old.session rec c.append_multi.result c.requires.may.ready.at c.append_multi.ensures.section)

pub returns-in-Ok-NoBase-clause-went : goal.returns-in-Ok-NoBase-clause-went
returns-in-Ok-NoBase-clause-went g c =
    let old = c.args.caller.now in
    let t = c.append_multi.new.caller in
    let w = c.log_behind.new.caller in
    on_then old.number t.number (view old.pass).seen (view t.pass).seen (view w.pass).seen c.append_multi.ensures.number c.append_multi.ensures.went c.log_behind.ensures.went

pub returns-in-Ok-NoBase-clause-adds : goal.returns-in-Ok-NoBase-clause-adds
returns-in-Ok-NoBase-clause-adds g c =
    let start = start_of c.args.hall.now in
    let old = c.args.caller.now in
    let t = c.append_multi.new.caller in
    let w = c.log_behind.new.caller in
    let rec = c.args.rec.now in
    let by = by_at old.number old.session.levels.commands in
    let same = unlogged_same start (view t.pass).seen rec old.session t.session c.in-Ok-NoBase.field-0 c.in-Ok-NoBase.field-0-is c.in-Ok-NoBase.ensures.takes in
    both_add by (by_at t.number t.session.levels.commands) (MayAdd (λ z. z ≡ rec) ⊥ (λ r. ⊥)) (MayAdd IsOfMulti ⊥ (λ r. ⊥)) (MayAdd IsOfMulti ⊥ (λ r. ⊥)) (view old.pass).seen (view t.pass).seen (view w.pass).seen
    (same_command old.number t.number old.session t.session c.append_multi.ensures.number same) (record_wider old.session.making rec c.requires.record) (λ lock kind m. m)
    (append_adds start (view old.pass) (view t.pass) by old.session rec c.append_multi.result c.requires.may.ready.at c.append_multi.ensures.section)
    c.log_behind.ensures.adds

pub returns-in-Err-clause-full : goal.returns-in-Err-clause-full
returns-in-Err-clause-full g c =
    let old = c.args.caller.now in
    let rec = c.args.rec.now in
    let t = c.append_multi.new.caller in
    let by = by_at old.number old.session.levels.commands in
    let refused : Result (Unit {0}) Refusal = Err c.in-Err.refusal in
    met_for (start_of c.args.hall.now) (view t.pass).seen by by (λ z. z ≡ rec) (IsPending t.session.making) refused refl
    (λ z is. subst (IsPending t.session.making) (sym is) (subst (λ (s : Session). IsPending s.making rec) (sym c.in-Err.ensures.takes.0) (making_pending old.session.making rec c.requires.record))) c.in-Err.ensures.full

pub log_behind-requires-clause-no_base : goal.log_behind-requires-clause-no_base
log_behind-requires-clause-no_base g c =
    let start = start_of c.args.hall.now in
    let old = c.args.caller.now in
    let t = c.append_multi.new.caller in
    let rec = c.args.rec.now in
    let wide = c.requires.may.ready.at.wide in
    let came = c.in-Ok-NoBase.field-0 in
    let is = c.in-Ok-NoBase.field-0-is in
    let same = unlogged_same start (view t.pass).seen rec old.session t.session came is c.in-Ok-NoBase.ensures.takes in
    found_no_base start (view old.pass) (view t.pass) (by_at old.number old.session.levels.commands) (by_at t.number t.session.levels.commands) rec came (sym (same_command old.number t.number old.session t.session c.append_multi.ensures.number same)) is (omega arith) c.in-Ok-NoBase.ensures.section
    (subst (λ (z : Appended). TakesMulti start (view t.pass).seen rec old.session t.session (Ok z)) is c.in-Ok-NoBase.ensures.takes).1

pub returns-in-Ok-NoBase-clause-full : goal.returns-in-Ok-NoBase-clause-full
returns-in-Ok-NoBase-clause-full g c =
    let start = start_of c.args.hall.now in
    let old = c.args.caller.now in
    let t = c.append_multi.new.caller in
    let x = c.log_behind.new.caller in
    let same = unlogged_same start (view t.pass).seen c.args.rec.now old.session t.session c.in-Ok-NoBase.field-0 c.in-Ok-NoBase.field-0-is c.in-Ok-NoBase.ensures.takes in
    met_for_then start (view x.pass).seen (by_at t.number t.session.levels.commands) (by_at old.number old.session.levels.commands) (IsPending x.session.making) (IsPending x.session.making) c.log_behind.result
    (same_command old.number t.number old.session t.session c.append_multi.ensures.number same) (λ z of. of) c.log_behind.ensures.full
