use Rattle.std.proofs.Common.{◌≡◌, arith, sym, subst}
use Rattle.hall.specs.Calls.{view, start_of}
use Rattle.tx_events.specs.declared.record.Rec.{Rec}
use Rattle.engine_parts.specs.Adding.{IsPlain, IsTruncation, MayAdd}
use Rattle.engine_parts.specs.Sessions.{by_at}
use Rattle.engine_parts.proofs.Adding.{may_wider, plain_wider}
use Rattle.engine_parts.proofs.Sectioning.{same_command}
use Rattle.engine_parts.proofs.Unmoved.{call_read, look_adds}
use Rattle.log_sections.proofs.Added.{truncation_adds}
use Rattle.log_sections.proofs.Rooms.{met_then}
use Rattle.xact_ends.proofs.Added.{both_add}
use Rattle.xact_ends.proofs.Landing.{truncation_tells}
use Rattle.xact_ends.proofs.Truncating.{is_truncation, truncation_found, went_on}
use Rattle.xact_ends.proofs.logging.log_truncation.Goals as goal

pub append_truncation-requires-clause-may : goal.append_truncation-requires-clause-may
append_truncation-requires-clause-may g c =
    let old = c.args.caller.now in
    let t = c.read_truncation-rec.new.caller in
    let e = c.read_truncation-rec.ensures in
    call_read (start_of c.args.hall.now) (view old.pass) (view t.pass) old.number t.number old.session t.session c.requires.may e.went e.same.1 e.same.0 e.ready

pub append_truncation-requires-clause-record : goal.append_truncation-requires-clause-record
append_truncation-requires-clause-record g c =
    truncation_found (start_of c.args.hall.now) (view c.read_truncation-rec.new.caller.pass).seen c.read_truncation-rec.result c.read_truncation-rec.ensures.record

pub returns-clause-went : goal.returns-clause-went
returns-clause-went g c =
    let old = c.args.caller.now in
    let t = c.read_truncation-rec.new.caller in
    let w = c.append_truncation.new.caller in
    let e = c.read_truncation-rec.ensures in
    went_on old.number t.number (view old.pass).seen (view t.pass).seen (view w.pass).seen e.same.1 e.went c.append_truncation.ensures.went

pub returns-clause-adds : goal.returns-clause-adds
returns-clause-adds g c =
    let start = start_of c.args.hall.now in
    let old = c.args.caller.now in
    let t = c.read_truncation-rec.new.caller in
    let w = c.append_truncation.new.caller in
    let e = c.read_truncation-rec.ensures in
    let rec : Rec = c.read_truncation-rec.result in
    let by = by_at old.number old.session.levels.commands in
    let by' = by_at t.number t.session.levels.commands in
    both_add by by' IsPlain (MayAdd (λ z. z ≡ rec) ⊥ (λ r. ⊥)) (MayAdd IsTruncation ⊥ (λ r. ⊥)) (view old.pass).seen (view t.pass).seen (view w.pass).seen (same_command old.number t.number old.session t.session e.same.1 e.same.0)
    (plain_wider IsTruncation ⊥ (λ r. ⊥))
    (may_wider (λ z. z ≡ rec) IsTruncation ⊥ ⊥ (λ r. ⊥) (λ r. ⊥) (λ z is. subst IsTruncation (sym is) (is_truncation start (view t.pass).seen rec e.record)) (λ m. m) (λ r m. m))
    (look_adds start (view old.pass) (view t.pass) old.number old.session IsPlain c.requires.may.ready.at (λ number. tt) tt e.section)
    (truncation_adds start (view t.pass) (view w.pass) by' t.session rec c.append_truncation.result e.ready.at c.append_truncation.ensures.section)

pub returns-clause-told : goal.returns-clause-told
returns-clause-told g c =
    let start = start_of c.args.hall.now in
    let old = c.args.caller.now in
    let t = c.read_truncation-rec.new.caller in
    let w = c.append_truncation.new.caller in
    let e = c.read_truncation-rec.ensures in
    let wide = e.ready.at.wide in
    truncation_tells start (view old.pass).seen (view t.pass) (view w.pass) (by_at t.number t.session.levels.commands) c.read_truncation-rec.result c.append_truncation.result e.ready.at.kept e.went.on.grows (omega arith) e.record c.append_truncation.ensures.section

pub returns-clause-full : goal.returns-clause-full
returns-clause-full g c =
    let start = start_of c.args.hall.now in
    let old = c.args.caller.now in
    let t = c.read_truncation-rec.new.caller in
    let e = c.read_truncation-rec.ensures in
    let rec : Rec = c.read_truncation-rec.result in
    met_then start (view c.append_truncation.new.caller.pass).seen (by_at t.number t.session.levels.commands) (by_at old.number old.session.levels.commands) (λ z. z ≡ rec) IsTruncation c.append_truncation.result
    (same_command old.number t.number old.session t.session e.same.1 e.same.0) (λ z is. subst IsTruncation (sym is) (is_truncation start (view t.pass).seen rec e.record)) c.append_truncation.ensures.full
