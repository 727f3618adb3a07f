use Rattle.std.proofs.Common.{◌≡◌, ◌∙◌, Err, Result, subst, sym}
use Rattle.hall.specs.Calls.{view, start_of}
use Rattle.tx_events.specs.declared.refusal.Refusal.{Refusal}
use Rattle.engine_parts.specs.declared.session.Session.{Session}
use Rattle.engine_parts.specs.Adding.{IsOfMulti, IsTruncation, MayAdd}
use Rattle.engine_parts.specs.Sessions.{by_at}
use Rattle.engine_parts.proofs.Adding.{adds_wider}
use Rattle.engine_parts.proofs.Sectioning.{same_command}
use Rattle.log_sections.proofs.Added.{append_adds}
use Rattle.log_sections.proofs.Rooms.{met_before, met_for, no_base_stays}
use Rattle.multi_makes.specs.Pending.{IsPending}
use Rattle.multi_makes.proofs.Announcing.{making_pending, record_wider, truncation_wider}
use Rattle.multi_makes.proofs.Going.{both_add, on_then}
use Rattle.multi_makes.proofs.Landing.{multi_lands}
use Rattle.multi_makes.proofs.logging.log_behind.Goals as goal

pub returns-in-Ok-At-clause-went : goal.returns-in-Ok-At-clause-went
returns-in-Ok-At-clause-went g c =
    let old = c.args.caller.now in
    let t = c.log_truncation.new.caller in
    let w = c.append_multi.new.caller in
    let e = c.log_truncation.ensures in
    on_then old.number t.number (view old.pass).seen (view t.pass).seen (view w.pass).seen e.same.1 e.went c.append_multi.ensures.went

pub returns-in-Ok-At-clause-adds : goal.returns-in-Ok-At-clause-adds
returns-in-Ok-At-clause-adds g c =
    let old = c.args.caller.now in
    let t = c.log_truncation.new.caller in
    let w = c.append_multi.new.caller in
    let e = c.log_truncation.ensures in
    let rec = c.args.rec.now in
    let by = by_at old.number old.session.levels.commands in
    let by' = by_at t.number t.session.levels.commands in
    both_add by by' (MayAdd IsTruncation ⊥ (λ r. ⊥)) (MayAdd (λ z. z ≡ rec) ⊥ (λ r. ⊥)) (MayAdd IsOfMulti ⊥ (λ r. ⊥)) (view old.pass).seen (view t.pass).seen (view w.pass).seen (same_command old.number t.number old.session t.session e.same.1 e.same.0)
    truncation_wider (record_wider old.session.making rec c.requires.record) e.adds
    (append_adds (start_of c.args.hall.now) (view t.pass) (view w.pass) by' t.session rec c.append_multi.result e.may.ready.at c.append_multi.ensures.section)

pub returns-in-Err-append_multi-clause-went : goal.returns-in-Err-append_multi-clause-went
returns-in-Err-append_multi-clause-went g c =
    let old = c.args.caller.now in
    let t = c.log_truncation.new.caller in
    let w = c.append_multi.new.caller in
    let e = c.log_truncation.ensures in
    on_then old.number t.number (view old.pass).seen (view t.pass).seen (view w.pass).seen e.same.1 e.went c.append_multi.ensures.went

pub returns-in-Err-append_multi-clause-adds : goal.returns-in-Err-append_multi-clause-adds
returns-in-Err-append_multi-clause-adds g c =
    let old = c.args.caller.now in
    let t = c.log_truncation.new.caller in
    let w = c.append_multi.new.caller in
    let e = c.log_truncation.ensures in
    let rec = c.args.rec.now in
    let by = by_at old.number old.session.levels.commands in
    let by' = by_at t.number t.session.levels.commands in
    both_add by by' (MayAdd IsTruncation ⊥ (λ r. ⊥)) (MayAdd (λ z. z ≡ rec) ⊥ (λ r. ⊥)) (MayAdd IsOfMulti ⊥ (λ r. ⊥)) (view old.pass).seen (view t.pass).seen (view w.pass).seen (same_command old.number t.number old.session t.session e.same.1 e.same.0)
    truncation_wider (record_wider old.session.making rec c.requires.record) e.adds
    (append_adds (start_of c.args.hall.now) (view t.pass) (view w.pass) by' t.session rec c.append_multi.result e.may.ready.at c.append_multi.ensures.section)

pub returns-in-Err-clause-adds : goal.returns-in-Err-clause-adds
returns-in-Err-clause-adds g c =
    let old = c.args.caller.now in
    adds_wider (by_at old.number old.session.levels.commands) (MayAdd IsTruncation ⊥ (λ r. ⊥)) (MayAdd IsOfMulti ⊥ (λ r. ⊥)) (view old.pass).seen (view c.log_truncation.new.caller.pass).seen truncation_wider c.in-Err.ensures.adds

pub unreachable-requires : goal.unreachable-requires
unreachable-requires g c =
    let old = c.args.caller.now in
    let t = c.log_truncation.new.caller in
    let w = c.append_multi.new.caller in
    let e = c.log_truncation.ensures in
    let a = c.append_multi.ensures in
    multi_lands (start_of c.args.hall.now) (view old.pass) (view t.pass).seen (view w.pass).seen old.number old.session t.session w.session c.args.rec.now c.in-Ok-NoBase.field-0 c.requires.may.ready.at c.requires.record c.tell_forms.ensures.multi a.may.ready.at.kept c.in-Ok.ensures.told e.went.on.grows a.went.on.grows
    c.in-Ok-NoBase.field-0-is c.in-Ok-NoBase.ensures.takes

pub returns-in-Err-append_multi-clause-full : goal.returns-in-Err-append_multi-clause-full
returns-in-Err-append_multi-clause-full g c =
    let old = c.args.caller.now in
    let t = c.log_truncation.new.caller in
    let w = c.append_multi.new.caller in
    let e = c.log_truncation.ensures in
    let rec = c.args.rec.now in
    let refused : Result (Unit {0}) Refusal = Err c.in-Err-append_multi.refusal in
    met_for (start_of c.args.hall.now) (view w.pass).seen (by_at t.number t.session.levels.commands) (by_at old.number old.session.levels.commands) (λ z. z ≡ rec) (IsPending w.session.making) refused (same_command old.number t.number old.session t.session e.same.1 e.same.0)
    (λ z is. subst (IsPending w.session.making) (sym is) (subst (λ (s : Session). IsPending s.making rec) (sym (c.in-Err-append_multi.ensures.takes.0 ∙ e.same.0)) (making_pending old.session.making rec c.requires.record))) c.in-Err-append_multi.ensures.full

pub returns-in-Err-clause-full : goal.returns-in-Err-clause-full
returns-in-Err-clause-full g c =
    let start = start_of c.args.hall.now in
    let old = c.args.caller.now in
    let t = c.log_truncation.new.caller in
    let rec = c.args.rec.now in
    let by = by_at old.number old.session.levels.commands in
    let more = (view t.pass).seen in
    let e = c.log_truncation.ensures in
    let refused : Result (Unit {0}) Refusal = Err c.in-Err.refusal in
    met_before start more by (IsPending t.session.making) refused rec (subst (λ (s : Session). IsPending s.making rec) (sym e.same.0) (making_pending old.session.making rec c.requires.record))
    (no_base_stays start (view old.pass).seen more by rec e.went.on.grows c.requires.no_base) c.in-Err.ensures.full
