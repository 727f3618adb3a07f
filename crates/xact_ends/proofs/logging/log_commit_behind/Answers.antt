use Rattle.std.proofs.Common.{Err, Result, ◌≡◌, ◌∙◌, ap, sym, subst}
use Rattle.hall.specs.Calls.{view, start_of}
use Rattle.tx_events.specs.declared.refusal.Refusal.{Refusal}
use Rattle.engine_parts.specs.declared.session.Session.{Session}
use Rattle.engine_parts.specs.Adding.{IsCommitOf, IsOfCommit, IsTruncation, MayAdd}
use Rattle.engine_parts.specs.Sessions.{by_at}
use Rattle.engine_parts.proofs.Adding.{adds_wider}
use Rattle.engine_parts.proofs.Sectioning.{same_command}
use Rattle.log_sections.specs.declared.appending.Appended.{Appended}
use Rattle.log_sections.specs.LogSections.{Appends}
use Rattle.log_sections.proofs.Added.{append_adds}
use Rattle.log_sections.proofs.Rooms.{met_before, met_for, no_base_stays}
use Rattle.xact_ends.proofs.Added.{both_add}
use Rattle.xact_ends.proofs.Landing.{commit_lands}
use Rattle.xact_ends.proofs.Truncating.{commit_wider, truncation_wider, went_on}
use Rattle.xact_ends.proofs.logging.log_commit_behind.Goals as goal

pub append_commit-requires-clause-clear : goal.append_commit-requires-clause-clear
append_commit-requires-clause-clear g c = ap (λ (z : Session). z.stage) c.in-Ok.ensures.same.0 ∙ c.requires.clear

pub append_commit-requires-clause-linked : goal.append_commit-requires-clause-linked
append_commit-requires-clause-linked g c = ap (λ (z : Session). z.unlinked) c.in-Ok.ensures.same.0 ∙ c.requires.linked

pub append_commit-requires-clause-record : goal.append_commit-requires-clause-record
append_commit-requires-clause-record g c = subst (λ (z : Session). IsCommitOf z.levels.open_ids.items c.args.rec.now) (sym c.in-Ok.ensures.same.0) c.requires.record

pub returns-in-Ok-clause-went : goal.returns-in-Ok-clause-went
returns-in-Ok-clause-went g c =
    let old = c.args.caller.now in
    let t = c.log_truncation.new.caller in
    let w = c.append_commit.new.caller in
    let e = c.in-Ok.ensures in
    went_on old.number t.number (view old.pass).seen (view t.pass).seen (view w.pass).seen e.same.1 e.went c.append_commit.ensures.went

pub returns-in-Ok-clause-adds : goal.returns-in-Ok-clause-adds
returns-in-Ok-clause-adds g c =
    let old = c.args.caller.now in
    let t = c.log_truncation.new.caller in
    let w = c.append_commit.new.caller in
    let e = c.in-Ok.ensures in
    let rec = c.args.rec.now in
    let opened = old.session.levels.open_ids.items in
    let by = by_at old.number old.session.levels.commands in
    let by' = by_at t.number t.session.levels.commands in
    both_add by by' (MayAdd IsTruncation ⊥ (λ r. ⊥)) (MayAdd (λ z. z ≡ rec) ⊥ (λ r. ⊥)) (MayAdd (IsOfCommit opened) ⊥ (λ r. ⊥)) (view old.pass).seen (view t.pass).seen (view w.pass).seen (same_command old.number t.number old.session t.session e.same.1 e.same.0)
    (truncation_wider opened) (commit_wider opened rec c.requires.record) e.adds
    (append_adds (start_of c.args.hall.now) (view t.pass) (view w.pass) by' t.session rec c.append_commit.result e.may.ready.at c.append_commit.ensures.section)

pub returns-in-Ok-clause-appends : goal.returns-in-Ok-clause-appends
returns-in-Ok-clause-appends g c =
    let w = c.append_commit.new.caller in
    subst (λ (z : Session). Appends (start_of c.args.hall.now) (view w.pass).seen c.args.rec.now z w.session c.append_commit.result) c.in-Ok.ensures.same.0 c.append_commit.ensures.appends

pub returns-in-Ok-clause-number : goal.returns-in-Ok-clause-number
returns-in-Ok-clause-number g c = c.append_commit.ensures.number ∙ c.in-Ok.ensures.same.1

pub returns-in-Err-clause-adds : goal.returns-in-Err-clause-adds
returns-in-Err-clause-adds g c =
    let old = c.args.caller.now in
    let opened = old.session.levels.open_ids.items in
    adds_wider (by_at old.number old.session.levels.commands) (MayAdd IsTruncation ⊥ (λ r. ⊥)) (MayAdd (IsOfCommit opened) ⊥ (λ r. ⊥)) (view old.pass).seen (view c.log_truncation.new.caller.pass).seen (truncation_wider opened) c.in-Err.ensures.adds

pub returns-in-Err-clause-appends : goal.returns-in-Err-clause-appends
returns-in-Err-clause-appends g c = (c.in-Err.ensures.same.0, c.in-Err.ensures.refused)

pub returns-in-Ok-clause-numbered : goal.returns-in-Ok-clause-numbered
returns-in-Ok-clause-numbered g c =
    let old = c.args.caller.now in
    let t = c.log_truncation.new.caller in
    let w = c.append_commit.new.caller in
    let a = c.append_commit.ensures in
    commit_lands (start_of c.args.hall.now) (view old.pass) (view t.pass).seen (view w.pass).seen old.number old.session t.session w.session c.args.rec.now c.append_commit.result c.requires.may.ready.at c.requires.record a.may.ready.at.kept c.in-Ok.ensures.told a.went.on.grows a.appends

pub returns-in-Ok-clause-full : goal.returns-in-Ok-clause-full
returns-in-Ok-clause-full g c =
    let old = c.args.caller.now in
    let t = c.log_truncation.new.caller in
    let e = c.in-Ok.ensures in
    let rec = c.args.rec.now in
    let opened = old.session.levels.open_ids.items in
    met_for (start_of c.args.hall.now) (view c.append_commit.new.caller.pass).seen (by_at t.number t.session.levels.commands) (by_at old.number old.session.levels.commands) (λ z. z ≡ rec) (IsCommitOf opened) c.append_commit.result
    (same_command old.number t.number old.session t.session e.same.1 e.same.0) (λ z is. subst (IsCommitOf opened) (sym is) c.requires.record) c.append_commit.ensures.full

pub returns-in-Err-clause-full : goal.returns-in-Err-clause-full
returns-in-Err-clause-full g c =
    let start = start_of c.args.hall.now in
    let old = c.args.caller.now in
    let by = by_at old.number old.session.levels.commands in
    let more = (view c.log_truncation.new.caller.pass).seen in
    let refused : Result Appended Refusal = Err c.in-Err.refusal in
    met_before start more by (IsCommitOf old.session.levels.open_ids.items) refused c.args.rec.now c.requires.record (no_base_stays start (view old.pass).seen more by c.args.rec.now c.log_truncation.ensures.went.on.grows c.requires.no_base) c.in-Err.ensures.full
