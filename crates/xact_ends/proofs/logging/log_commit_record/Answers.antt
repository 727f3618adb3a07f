use Rattle.std.proofs.Common.{Err, Ok, Result, ◌≡◌, ◌∙◌, ap, arith, refl, sym, subst}
use Rattle.hall.specs.Calls.{view, start_of}
use Rattle.tx_events.specs.declared.refusal.Refusal.{Refusal}
use Rattle.engine_parts.specs.declared.session.Session.{Session}
use Rattle.engine_parts.specs.Adding.{Adds, IsCommitOf, IsOfCommit, MayAdd}
use Rattle.engine_parts.specs.Sessions.{by_at}
use Rattle.engine_parts.proofs.Adding.{adds_wider}
use Rattle.engine_parts.proofs.Sectioning.{same_command}
use Rattle.log_sections.specs.declared.appending.Appended.{Appended}
use Rattle.log_sections.specs.LogSections.{Appends}
use Rattle.log_sections.proofs.Added.{append_adds}
use Rattle.log_sections.proofs.Rooms.{found_no_base, met_for, met_for_then}
use Rattle.xact_ends.proofs.Added.{both_add}
use Rattle.xact_ends.proofs.Truncating.{commit_wider, unlogged_same, went_on}
use Rattle.xact_ends.proofs.logging.log_commit_record.Goals as goal

pub log_commit_behind-requires-clause-clear : goal.log_commit_behind-requires-clause-clear
log_commit_behind-requires-clause-clear g c =
    let t = c.append_commit.new.caller in
    ap (λ (z : Session). z.stage) (unlogged_same (start_of c.args.hall.now) (view t.pass).seen c.args.rec.now c.args.caller.now.session t.session c.in-Ok.appended c.in-NoBase.is c.in-Ok.ensures.appends) ∙ c.requires.clear

pub log_commit_behind-requires-clause-linked : goal.log_commit_behind-requires-clause-linked
log_commit_behind-requires-clause-linked g c =
    let t = c.append_commit.new.caller in
    ap (λ (z : Session). z.unlinked) (unlogged_same (start_of c.args.hall.now) (view t.pass).seen c.args.rec.now c.args.caller.now.session t.session c.in-Ok.appended c.in-NoBase.is c.in-Ok.ensures.appends) ∙ c.requires.linked

pub log_commit_behind-requires-clause-record : goal.log_commit_behind-requires-clause-record
log_commit_behind-requires-clause-record g c =
    let t = c.append_commit.new.caller in
    let same = unlogged_same (start_of c.args.hall.now) (view t.pass).seen c.args.rec.now c.args.caller.now.session t.session c.in-Ok.appended c.in-NoBase.is c.in-Ok.ensures.appends in
    subst (λ (z : Session). IsCommitOf z.levels.open_ids.items c.args.rec.now) (sym same) c.requires.record

pub returns-in-At-clause-adds : goal.returns-in-At-clause-adds
returns-in-At-clause-adds g c =
    let old = c.args.caller.now in
    let t = c.append_commit.new.caller in
    let rec = c.args.rec.now in
    let by = by_at old.number old.session.levels.commands in
    let opened = old.session.levels.open_ids.items in
    adds_wider by (MayAdd (λ z. z ≡ rec) ⊥ (λ r. ⊥)) (MayAdd (IsOfCommit opened) ⊥ (λ r. ⊥)) (view old.pass).seen (view t.pass).seen (commit_wider opened rec c.requires.record)
    (append_adds (start_of c.args.hall.now) (view old.pass) (view t.pass) by old.session rec c.append_commit.result c.requires.may.ready.at c.append_commit.ensures.section)

pub returns-in-At-clause-appends : goal.returns-in-At-clause-appends
returns-in-At-clause-appends g c =
    let t = c.append_commit.new.caller in
    subst (λ (z : Appended). Appends (start_of c.args.hall.now) (view t.pass).seen c.args.rec.now c.args.caller.now.session t.session (Ok z)) c.in-At.is c.in-Ok.ensures.appends

pub returns-in-NoBase-clause-went : goal.returns-in-NoBase-clause-went
returns-in-NoBase-clause-went g c =
    let old = c.args.caller.now in
    let t = c.append_commit.new.caller in
    let w = c.log_commit_behind.new.caller in
    went_on old.number t.number (view old.pass).seen (view t.pass).seen (view w.pass).seen c.append_commit.ensures.number c.append_commit.ensures.went c.log_commit_behind.ensures.went

pub returns-in-NoBase-clause-adds : goal.returns-in-NoBase-clause-adds
returns-in-NoBase-clause-adds g c =
    let start = start_of c.args.hall.now in
    let old = c.args.caller.now in
    let t = c.append_commit.new.caller in
    let w = c.log_commit_behind.new.caller in
    let rec = c.args.rec.now in
    let by = by_at old.number old.session.levels.commands in
    let opened = old.session.levels.open_ids.items in
    let same = unlogged_same start (view t.pass).seen rec old.session t.session c.in-Ok.appended c.in-NoBase.is c.in-Ok.ensures.appends in
    both_add by (by_at t.number t.session.levels.commands) (MayAdd (λ z. z ≡ rec) ⊥ (λ r. ⊥)) (MayAdd (IsOfCommit opened) ⊥ (λ r. ⊥)) (MayAdd (IsOfCommit opened) ⊥ (λ r. ⊥)) (view old.pass).seen (view t.pass).seen (view w.pass).seen
    (same_command old.number t.number old.session t.session c.append_commit.ensures.number same) (commit_wider opened rec c.requires.record) (λ lock kind m. m)
    (append_adds start (view old.pass) (view t.pass) by old.session rec c.append_commit.result c.requires.may.ready.at c.append_commit.ensures.section)
    (subst (λ (z : Session). Adds (by_at t.number t.session.levels.commands) (MayAdd (IsOfCommit z.levels.open_ids.items) ⊥ (λ r. ⊥)) (view t.pass).seen (view w.pass).seen) same c.log_commit_behind.ensures.adds)

pub returns-in-NoBase-clause-appends : goal.returns-in-NoBase-clause-appends
returns-in-NoBase-clause-appends g c =
    let start = start_of c.args.hall.now in
    let t = c.append_commit.new.caller in
    let w = c.log_commit_behind.new.caller in
    subst (λ (z : Session). Appends start (view w.pass).seen c.args.rec.now z w.session c.log_commit_behind.result)
    (unlogged_same start (view t.pass).seen c.args.rec.now c.args.caller.now.session t.session c.in-Ok.appended c.in-NoBase.is c.in-Ok.ensures.appends) c.log_commit_behind.ensures.appends

pub returns-in-NoBase-clause-number : goal.returns-in-NoBase-clause-number
returns-in-NoBase-clause-number g c = c.log_commit_behind.ensures.number ∙ c.append_commit.ensures.number

pub returns-in-Err-clause-adds : goal.returns-in-Err-clause-adds
returns-in-Err-clause-adds g c =
    let old = c.args.caller.now in
    let t = c.append_commit.new.caller in
    let rec = c.args.rec.now in
    let by = by_at old.number old.session.levels.commands in
    let opened = old.session.levels.open_ids.items in
    adds_wider by (MayAdd (λ z. z ≡ rec) ⊥ (λ r. ⊥)) (MayAdd (IsOfCommit opened) ⊥ (λ r. ⊥)) (view old.pass).seen (view t.pass).seen (commit_wider opened rec c.requires.record)
    (append_adds (start_of c.args.hall.now) (view old.pass) (view t.pass) by old.session rec c.append_commit.result c.requires.may.ready.at c.append_commit.ensures.section)

pub returns-in-NoBase-clause-numbered : goal.returns-in-NoBase-clause-numbered
returns-in-NoBase-clause-numbered g c = c.log_commit_behind.ensures.numbered

pub log_commit_behind-requires-clause-no_base : goal.log_commit_behind-requires-clause-no_base
log_commit_behind-requires-clause-no_base g c =
    let start = start_of c.args.hall.now in
    let old = c.args.caller.now in
    let t = c.append_commit.new.caller in
    let wide = c.requires.may.ready.at.wide in
    let same = unlogged_same start (view t.pass).seen c.args.rec.now old.session t.session c.in-Ok.appended c.in-NoBase.is c.in-Ok.ensures.appends in
    found_no_base start (view old.pass) (view t.pass) (by_at old.number old.session.levels.commands) (by_at t.number t.session.levels.commands) c.args.rec.now c.in-Ok.appended (sym (same_command old.number t.number old.session t.session c.append_commit.ensures.number same)) c.in-NoBase.is (omega arith) c.in-Ok.ensures.section
    (subst (λ (z : Appended). Appends start (view t.pass).seen c.args.rec.now old.session t.session (Ok z)) c.in-NoBase.is c.in-Ok.ensures.appends).1

pub returns-in-NoBase-clause-full : goal.returns-in-NoBase-clause-full
returns-in-NoBase-clause-full g c =
    let start = start_of c.args.hall.now in
    let old = c.args.caller.now in
    let t = c.append_commit.new.caller in
    let same = unlogged_same start (view t.pass).seen c.args.rec.now old.session t.session c.in-Ok.appended c.in-NoBase.is c.in-Ok.ensures.appends in
    met_for_then start (view c.log_commit_behind.new.caller.pass).seen (by_at t.number t.session.levels.commands) (by_at old.number old.session.levels.commands) (IsCommitOf t.session.levels.open_ids.items) (IsCommitOf old.session.levels.open_ids.items) c.log_commit_behind.result
    (same_command old.number t.number old.session t.session c.append_commit.ensures.number same) (λ z of. subst (λ (s : Session). IsCommitOf s.levels.open_ids.items z) same of) c.log_commit_behind.ensures.full

pub returns-in-Err-clause-full : goal.returns-in-Err-clause-full
returns-in-Err-clause-full g c =
    let old = c.args.caller.now in
    let by = by_at old.number old.session.levels.commands in
    let opened = old.session.levels.open_ids.items in
    let refused : Result Appended Refusal = Err c.in-Err.refusal in
    met_for (start_of c.args.hall.now) (view c.append_commit.new.caller.pass).seen by by (λ z. z ≡ c.args.rec.now) (IsCommitOf opened) refused refl (λ z is. subst (IsCommitOf opened) (sym is) c.requires.record) c.in-Err.ensures.full
