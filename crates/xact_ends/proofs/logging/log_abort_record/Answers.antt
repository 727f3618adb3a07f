use Rattle.std.proofs.Common.{Ok, ◌≡◌, ◌∙◌, ap, sym, subst}
use Rattle.hall.specs.Calls.{view, start_of}
use Rattle.engine_parts.specs.declared.session.Session.{Session}
use Rattle.engine_parts.specs.Adding.{Adds, IsAbortOf, IsOfAbort, MayAdd}
use Rattle.engine_parts.specs.Sessions.{by_at}
use Rattle.engine_parts.specs.Stages.{may_be_aborted, may_be_recorded}
use Rattle.engine_parts.proofs.Adding.{adds_wider}
use Rattle.engine_parts.proofs.Sectioning.{same_command}
use Rattle.log_sections.specs.declared.appending.Appended.{Appended}
use Rattle.log_sections.specs.LogSections.{TakesAbort}
use Rattle.log_sections.proofs.Added.{append_adds}
use Rattle.xact_ends.proofs.Added.{both_add}
use Rattle.xact_ends.proofs.Truncating.{abort_wider, unaborted_record_same, went_on}
use Rattle.xact_ends.proofs.logging.log_abort_record.Goals as goal

pub log_abort_behind-requires-clause-unrecorded : goal.log_abort_behind-requires-clause-unrecorded
log_abort_behind-requires-clause-unrecorded g c =
    let t = c.append_abort.new.caller in
    ap (λ (z : Session). may_be_recorded z.stage) (unaborted_record_same (start_of c.args.hall.now) (view t.pass).seen c.args.rec.now c.args.caller.now.session t.session c.in-Ok.appended c.in-NoBase.is c.in-Ok.ensures.takes) ∙ c.requires.unrecorded

pub log_abort_behind-requires-clause-unaborted : goal.log_abort_behind-requires-clause-unaborted
log_abort_behind-requires-clause-unaborted g c =
    let t = c.append_abort.new.caller in
    ap (λ (z : Session). may_be_aborted z.stage) (unaborted_record_same (start_of c.args.hall.now) (view t.pass).seen c.args.rec.now c.args.caller.now.session t.session c.in-Ok.appended c.in-NoBase.is c.in-Ok.ensures.takes) ∙ c.requires.unaborted

pub log_abort_behind-requires-clause-record : goal.log_abort_behind-requires-clause-record
log_abort_behind-requires-clause-record g c =
    let t = c.append_abort.new.caller in
    let same = unaborted_record_same (start_of c.args.hall.now) (view t.pass).seen c.args.rec.now c.args.caller.now.session t.session c.in-Ok.appended c.in-NoBase.is c.in-Ok.ensures.takes in
    subst (λ (z : Session). IsAbortOf z.levels.open_ids.items c.args.rec.now) (sym same) c.requires.record

pub returns-in-At-clause-adds : goal.returns-in-At-clause-adds
returns-in-At-clause-adds g c =
    let old = c.args.caller.now in
    let t = c.append_abort.new.caller in
    let rec = c.args.rec.now in
    let by = by_at old.number old.session.levels.commands in
    let opened = old.session.levels.open_ids.items in
    adds_wider by (MayAdd (λ z. z ≡ rec) ⊥ (λ r. ⊥)) (MayAdd (IsOfAbort opened) ⊥ (λ r. ⊥)) (view old.pass).seen (view t.pass).seen (abort_wider opened rec c.requires.record)
    (append_adds (start_of c.args.hall.now) (view old.pass) (view t.pass) by old.session rec c.append_abort.result c.requires.may.ready.at c.append_abort.ensures.section)

pub returns-in-At-clause-takes : goal.returns-in-At-clause-takes
returns-in-At-clause-takes g c =
    let t = c.append_abort.new.caller in
    subst (λ (z : Appended). TakesAbort (start_of c.args.hall.now) (view t.pass).seen c.args.rec.now c.args.caller.now.session t.session (Ok z)) c.in-At.is c.in-Ok.ensures.takes

pub returns-in-NoBase-clause-went : goal.returns-in-NoBase-clause-went
returns-in-NoBase-clause-went g c =
    let old = c.args.caller.now in
    let t = c.append_abort.new.caller in
    let w = c.log_abort_behind.new.caller in
    went_on old.number t.number (view old.pass).seen (view t.pass).seen (view w.pass).seen c.append_abort.ensures.number c.append_abort.ensures.went c.log_abort_behind.ensures.went

pub returns-in-NoBase-clause-adds : goal.returns-in-NoBase-clause-adds
returns-in-NoBase-clause-adds g c =
    let start = start_of c.args.hall.now in
    let old = c.args.caller.now in
    let t = c.append_abort.new.caller in
    let w = c.log_abort_behind.new.caller in
    let rec = c.args.rec.now in
    let by = by_at old.number old.session.levels.commands in
    let opened = old.session.levels.open_ids.items in
    let same = unaborted_record_same start (view t.pass).seen rec old.session t.session c.in-Ok.appended c.in-NoBase.is c.in-Ok.ensures.takes in
    both_add by (by_at t.number t.session.levels.commands) (MayAdd (λ z. z ≡ rec) ⊥ (λ r. ⊥)) (MayAdd (IsOfAbort opened) ⊥ (λ r. ⊥)) (MayAdd (IsOfAbort opened) ⊥ (λ r. ⊥)) (view old.pass).seen (view t.pass).seen (view w.pass).seen
    (same_command old.number t.number old.session t.session c.append_abort.ensures.number same) (abort_wider opened rec c.requires.record) (λ lock kind m. m)
    (append_adds start (view old.pass) (view t.pass) by old.session rec c.append_abort.result c.requires.may.ready.at c.append_abort.ensures.section)
    (subst (λ (z : Session). Adds (by_at t.number t.session.levels.commands) (MayAdd (IsOfAbort z.levels.open_ids.items) ⊥ (λ r. ⊥)) (view t.pass).seen (view w.pass).seen) same c.log_abort_behind.ensures.adds)

pub returns-in-NoBase-clause-takes : goal.returns-in-NoBase-clause-takes
returns-in-NoBase-clause-takes g c =
    let start = start_of c.args.hall.now in
    let t = c.append_abort.new.caller in
    let w = c.log_abort_behind.new.caller in
    subst (λ (z : Session). TakesAbort start (view w.pass).seen c.args.rec.now z w.session c.log_abort_behind.result)
    (unaborted_record_same start (view t.pass).seen c.args.rec.now c.args.caller.now.session t.session c.in-Ok.appended c.in-NoBase.is c.in-Ok.ensures.takes) c.log_abort_behind.ensures.takes

pub returns-in-NoBase-clause-number : goal.returns-in-NoBase-clause-number
returns-in-NoBase-clause-number g c = c.log_abort_behind.ensures.number ∙ c.append_abort.ensures.number

pub returns-in-Err-clause-adds : goal.returns-in-Err-clause-adds
returns-in-Err-clause-adds g c =
    let old = c.args.caller.now in
    let t = c.append_abort.new.caller in
    let rec = c.args.rec.now in
    let by = by_at old.number old.session.levels.commands in
    let opened = old.session.levels.open_ids.items in
    adds_wider by (MayAdd (λ z. z ≡ rec) ⊥ (λ r. ⊥)) (MayAdd (IsOfAbort opened) ⊥ (λ r. ⊥)) (view old.pass).seen (view t.pass).seen (abort_wider opened rec c.requires.record)
    (append_adds (start_of c.args.hall.now) (view old.pass) (view t.pass) by old.session rec c.append_abort.result c.requires.may.ready.at c.append_abort.ensures.section)

pub returns-in-NoBase-clause-numbered : goal.returns-in-NoBase-clause-numbered
returns-in-NoBase-clause-numbered g c = c.log_abort_behind.ensures.numbered
