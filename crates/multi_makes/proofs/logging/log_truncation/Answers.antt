use Rattle.std.proofs.Common.{◌≡◌, [], arith, refl, sym, subst, ◌∙◌}
use Rattle.hall.specs.Calls.{view, start_of}
use Rattle.tx_events.specs.declared.record.Rec.{Rec}
use Rattle.tx_events.specs.declared.record.Rec.TheVariants as records
use Rattle.engine_parts.specs.Adding.{IsPlain, IsTruncation, MayAdd}
use Rattle.engine_parts.specs.Sessions.{by_at}
use Rattle.engine_parts.proofs.Adding.{may_wider, plain_wider}
use Rattle.engine_parts.proofs.Leaving.{grows_then}
use Rattle.engine_parts.proofs.Sectioning.{same_command}
use Rattle.engine_parts.proofs.Unmoved.{call_read, look_adds}
use Rattle.log_sections.proofs.Added.{truncation_adds}
use Rattle.log_sections.proofs.Rooms.{met_then}
use Rattle.multi_makes.proofs.Announcing.{multi_look_adds, truncation_found}
use Rattle.multi_makes.proofs.Going.{both_add, call_multi, on_then, same_making, went_on}
use Rattle.multi_makes.proofs.Landing.{truncation_tells}
use Rattle.multi_makes.proofs.logging.log_truncation.Goals as goal

pub append_truncation-requires-clause-may : goal.append_truncation-requires-clause-may
append_truncation-requires-clause-may g c =
    let start = start_of c.args.hall.now in
    let old = c.args.caller.now in
    let u = c.read_oldest-oldest.new.caller in
    let t = c.read_multis-multis.new.caller in
    let e = c.read_oldest-oldest.ensures in
    let f = c.read_multis-multis.ensures in
    let first = call_read start (view old.pass) (view u.pass) old.number u.number old.session u.session c.requires.may e.went e.same.1 e.same.0 e.ready in
    call_multi start (view u.pass) (view t.pass) u.number t.number u.session t.session [] first f.went f.same.1 (same_making u.session t.session f.same.0) f.ready

pub append_truncation-requires-clause-record : goal.append_truncation-requires-clause-record
append_truncation-requires-clause-record g c =
    let u = c.read_oldest-oldest.new.caller in
    let t = c.read_multis-multis.new.caller in
    truncation_found (start_of c.args.hall.now) (view u.pass).seen (view t.pass).seen c.read_oldest-oldest.result c.read_multis-multis.result _ c.read_multis-multis.ensures.went.grows c.read_oldest-oldest.ensures.oldest c.read_multis-multis.ensures.counters refl

pub returns-clause-went : goal.returns-clause-went
returns-clause-went g c =
    let old = c.args.caller.now in
    let u = c.read_oldest-oldest.new.caller in
    let t = c.read_multis-multis.new.caller in
    let w = c.append_truncation.new.caller in
    let e = c.read_oldest-oldest.ensures in
    let f = c.read_multis-multis.ensures in
    on_then old.number t.number (view old.pass).seen (view t.pass).seen (view w.pass).seen (f.same.1 ∙ e.same.1)
    (on_then old.number u.number (view old.pass).seen (view u.pass).seen (view t.pass).seen e.same.1 e.went (went_on u.number (view u.pass).seen (view t.pass).seen f.went)) c.append_truncation.ensures.went

pub returns-clause-adds : goal.returns-clause-adds
returns-clause-adds g c =
    let start = start_of c.args.hall.now in
    let old = c.args.caller.now in
    let u = c.read_oldest-oldest.new.caller in
    let t = c.read_multis-multis.new.caller in
    let w = c.append_truncation.new.caller in
    let e = c.read_oldest-oldest.ensures in
    let f = c.read_multis-multis.ensures in
    let rec : Rec = records.Truncate c.read_oldest-oldest.result c.read_multis-multis.result.oldest_multi c.read_multis-multis.result.oldest_offset in
    let by = by_at old.number old.session.levels.commands in
    let mid = by_at u.number u.session.levels.commands in
    let by' = by_at t.number t.session.levels.commands in
    both_add by by' IsPlain (MayAdd (λ z. z ≡ rec) ⊥ (λ r. ⊥)) (MayAdd IsTruncation ⊥ (λ r. ⊥)) (view old.pass).seen (view t.pass).seen (view w.pass).seen (same_command old.number t.number old.session t.session (f.same.1 ∙ e.same.1) (f.same.0 ∙ e.same.0))
    (plain_wider IsTruncation ⊥ (λ r. ⊥))
    (may_wider (λ z. z ≡ rec) IsTruncation ⊥ ⊥ (λ r. ⊥) (λ r. ⊥) (λ z is. subst IsTruncation (sym is) tt) (λ m. m) (λ r m. m))
    (both_add by mid IsPlain IsPlain IsPlain (view old.pass).seen (view u.pass).seen (view t.pass).seen (same_command old.number u.number old.session u.session e.same.1 e.same.0) (λ lock kind m. m) (λ lock kind m. m)
    (look_adds start (view old.pass) (view u.pass) old.number old.session IsPlain c.requires.may.ready.at (λ number. tt) tt e.section)
    (multi_look_adds start (view u.pass) (view t.pass) u.number u.session e.ready.at f.section))
    (truncation_adds start (view t.pass) (view w.pass) by' t.session rec c.append_truncation.result f.ready.at c.append_truncation.ensures.section)

pub returns-clause-told : goal.returns-clause-told
returns-clause-told g c =
    let start = start_of c.args.hall.now in
    let old = c.args.caller.now in
    let u = c.read_oldest-oldest.new.caller in
    let t = c.read_multis-multis.new.caller in
    let w = c.append_truncation.new.caller in
    let e = c.read_oldest-oldest.ensures in
    let f = c.read_multis-multis.ensures in
    let wide = f.ready.at.wide in
    truncation_tells start (view old.pass).seen (view u.pass).seen (view t.pass) (view w.pass) (by_at t.number t.session.levels.commands) c.append_truncation.result c.read_oldest-oldest.result c.read_multis-multis.result e.ready.at.base e.ready.at.kept f.ready.at.kept
    e.went.on.grows (grows_then (view old.pass).seen (view u.pass).seen (view t.pass).seen e.went.on.grows f.went.grows) (omega arith) e.oldest f.counters c.append_truncation.ensures.section

pub returns-clause-full : goal.returns-clause-full
returns-clause-full g c =
    let old = c.args.caller.now in
    let t = c.read_multis-multis.new.caller in
    let e = c.read_oldest-oldest.ensures in
    let f = c.read_multis-multis.ensures in
    let rec : Rec = records.Truncate c.read_oldest-oldest.result c.read_multis-multis.result.oldest_multi c.read_multis-multis.result.oldest_offset in
    met_then (start_of c.args.hall.now) (view c.append_truncation.new.caller.pass).seen (by_at t.number t.session.levels.commands) (by_at old.number old.session.levels.commands) (λ z. z ≡ rec) IsTruncation c.append_truncation.result
    (same_command old.number t.number old.session t.session (f.same.1 ∙ e.same.1) (f.same.0 ∙ e.same.0)) (λ z is. subst IsTruncation (sym is) tt) c.append_truncation.ensures.full
