use Rattle.std.proofs.Common.{refl, ◌≡◌, ℕ, ◌≤◌, [], List, ap, ◌∙◌, sym, subst, ◌==◌, None, Some, length, arith, eq-eqb, ne_eqb}
use Rattle.std.proofs.lemmas.List.{nil_from_length}
use Rattle.hall.specs.Calls.{start_of, view}
use Rattle.tx_events.specs.declared.refusal.Refusal.TheVariants as refusals
use Rattle.tx_model.specs.declared.command.Command.TheVariants as commands
use Rattle.session_levels.specs.Stands as levels
use Rattle.engine_parts.specs.declared.session.Stage.{Stage}
use Rattle.engine_parts.specs.declared.session.Stage.TheVariants as stages
use Rattle.engine_parts.specs.Sessions.{stance_of, by_at}
use Rattle.engine_parts.specs.Stages.{pending_in}
use Rattle.life_law.specs.Refused.{held_by}
use Rattle.engine_parts.proofs.Calling.{may_counted, ran_counted, ran_held, ran_refused, step_counted}
use Rattle.engine_parts.proofs.Refusing.{first_fails, first_holds, held_up}
use Rattle.engine_parts.specs.Adding.{IsCommitOf}
use Rattle.engine_parts.specs.Calls.{next_command}
use Rattle.log_sections.specs.Rooms.{IsOneOrBefore}
use Rattle.log_sections.proofs.Rooms.{counted_by, met_for_then}
use Rattle.xact_ends.proofs.Rooms.{IsBegun, recorded_never}
use Rattle.xact_ends.proofs.Acts.{ran_commit, logged_leaves}
use Rattle.xact_ends.proofs.Finishing.{logged_at, settling_at, some_logged, some_settling}
use Rattle.engine_parts.proofs.Adding.{adds_wider}
use Rattle.xact_ends.proofs.Added.{fault_leaves}
use Rattle.tx_events.specs.Running.{open_ids}
use Rattle.tx_core.specs.Entries.{history}
use Rattle.xact_ends.proofs.commits.commit.Goals as goal

pub depth-requires : goal.depth-requires
depth-requires g c = (may_counted c.args.hall.now c.args.caller.now c.count.new.caller c.count.ensures c.requires).ready.at.stands.depth

pub returns-then-depth-eq0-clause-ran : goal.returns-then-depth-eq0-clause-ran
returns-then-depth-eq0-clause-ran g c =
    let old = c.args.caller.now in
    let s = stance_of old.session in
    let empty : length s.levels ≡ 0 = let d = c.depth.ensures in let t = c.if-depth-eq0.true in let same = ap (λ z. length (levels.levels_of z.level_ids.items z.unnamed)) c.count.ensures.levels in omega arith in
    ran_refused c.args.hall.now old c.count.new.caller commands.Commit refusals.NoTransaction c.count.ensures c.requires refl refl
    (sym (first_holds (length s.levels == 0) refusals.NoTransaction _ (eq-eqb (length s.levels) 0 empty))) (nil_from_length s.levels empty)

pub commit_anew-requires-clause-step : goal.commit_anew-requires-clause-step
commit_anew-requires-clause-step g c = step_counted c.args.hall.now c.args.caller.now c.count.new.caller c.count.ensures c.requires

pub commit_anew-requires-clause-levels : goal.commit_anew-requires-clause-levels
commit_anew-requires-clause-levels g c = let d = c.depth.ensures in let t = c.if-depth-eq0.false in omega arith

pub flush_and_finish-requires-clause-step : goal.flush_and_finish-requires-clause-step
flush_and_finish-requires-clause-step g c = step_counted c.args.hall.now c.args.caller.now c.count.new.caller c.count.ensures c.requires

pub finish-requires-clause-step : goal.finish-requires-clause-step
finish-requires-clause-step g c = step_counted c.args.hall.now c.args.caller.now c.count.new.caller c.count.ensures c.requires

pub returns-in-Clear-clause-ran : goal.returns-in-Clear-clause-ran
returns-in-Clear-clause-ran g c = ran_counted c.args.hall.now c.args.caller.now c.count.new.caller c.commit_anew.new.caller commands.Commit _ c.count.ensures c.commit_anew.ensures.ran

pub returns-in-Logged-clause-ran : goal.returns-in-Logged-clause-ran
returns-in-Logged-clause-ran g c =
    let hall = c.args.hall.now in
    let old = c.args.caller.now in
    let u = c.count.new.caller in
    let f = c.flush_and_finish in
    let m = may_counted hall old u c.count.ensures c.requires in
    ran_counted hall old u f.new.caller commands.Commit _ c.count.ensures
    (ran_commit hall u f.new.caller f.result f.ensures.step.own m f.ensures.step.may f.ensures.number
    (some_logged (start_of hall) (view u.pass).seen u.number c.in-Logged.number u.session.levels.open_ids.items (logged_at (start_of hall) (view u.pass) u.number c.in-Logged.number u.session m c.in-Logged.is))
    (ap (λ (z : Stage). held_by commands.Commit (pending_in z)) c.in-Logged.is)
    (adds_wider (by_at u.number u.session.levels.commands) _ _ (view u.pass).seen (view f.new.caller.pass).seen (logged_leaves (start_of hall) (view u.pass) u.number u.session m.ready.at f.result c.in-Logged.number c.in-Logged.is) f.ensures.adds) f.ensures.commits)

pub returns-in-Settling-clause-ran : goal.returns-in-Settling-clause-ran
returns-in-Settling-clause-ran g c =
    let hall = c.args.hall.now in
    let old = c.args.caller.now in
    let u = c.count.new.caller in
    let f = c.finish in
    let m = may_counted hall old u c.count.ensures c.requires in
    ran_counted hall old u f.new.caller commands.Commit _ c.count.ensures
    (ran_commit hall u f.new.caller f.result f.ensures.step.own m f.ensures.step.may f.ensures.number
    (some_settling (start_of hall) (view u.pass).seen u.number c.in-Settling.steps u.session.levels.open_ids.items (settling_at (start_of hall) (view u.pass) u.number c.in-Settling.steps u.session m c.in-Settling.is))
    (ap (λ (z : Stage). held_by commands.Commit (pending_in z)) c.in-Settling.is)
    (adds_wider (by_at u.number u.session.levels.commands) _ _ (view u.pass).seen (view f.new.caller.pass).seen (fault_leaves commands.Commit (stance_of u.session) u.session.stage (open_ids u.number (history (view u.pass).seen)) f.result) f.ensures.adds) f.ensures.commits)

pub returns-in-Aborting-clause-ran : goal.returns-in-Aborting-clause-ran
returns-in-Aborting-clause-ran g c =
    let old = c.args.caller.now in
    let s = stance_of old.session in
    let stage = old.session.stage in
    let is : stage ≡ stages.Aborting = sym c.count.ensures.stage ∙ c.in-Aborting.is in
    ran_held c.args.hall.now old c.count.new.caller commands.Commit refusals.AbortPending c.count.ensures c.requires refl (ap pending_in is)
    (first_fails (length s.levels == 0) refusals.NoTransaction _ (ne_eqb (length s.levels) 0 (λ e. let d = c.depth.ensures in let t = c.if-depth-eq0.false in let same = ap (λ z. length (levels.levels_of z.level_ids.items z.unnamed)) c.count.ensures.levels in omega arith))
    ∙ held_up (held_by commands.Commit (pending_in stage)) refusals.AbortPending _ (ap (λ (z : Stage). held_by commands.Commit (pending_in z)) is))

pub returns-in-Undoing-clause-ran : goal.returns-in-Undoing-clause-ran
returns-in-Undoing-clause-ran g c =
    let old = c.args.caller.now in
    let s = stance_of old.session in
    let stage = old.session.stage in
    let is : stage ≡ stages.Undoing = sym c.count.ensures.stage ∙ c.in-Undoing.is in
    ran_held c.args.hall.now old c.count.new.caller commands.Commit refusals.UndoPending c.count.ensures c.requires refl (ap pending_in is)
    (first_fails (length s.levels == 0) refusals.NoTransaction _ (ne_eqb (length s.levels) 0 (λ e. let d = c.depth.ensures in let t = c.if-depth-eq0.false in let same = ap (λ z. length (levels.levels_of z.level_ids.items z.unnamed)) c.count.ensures.levels in omega arith))
    ∙ held_up (held_by commands.Commit (pending_in stage)) refusals.UndoPending _ (ap (λ (z : Stage). held_by commands.Commit (pending_in z)) is))

-- the log was full
pub returns-in-Clear-clause-full : goal.returns-in-Clear-clause-full
returns-in-Clear-clause-full g c =
    let old = c.args.caller.now in
    let u = c.count.new.caller in
    let opened = old.session.levels.open_ids.items in
    let same : u.session.levels.open_ids.items ≡ opened = ap (λ k. k.open_ids.items) c.count.ensures.levels in
    met_for_then (start_of c.args.hall.now) (view c.commit_anew.new.caller.pass).seen (by_at u.number u.session.levels.commands) (by_at old.number (next_command old)) (IsCommitOf u.session.levels.open_ids.items) (IsCommitOf opened) c.commit_anew.result
    (counted_by old u c.count.ensures) (λ z of. subst (λ (l : List ℕ). IsCommitOf l z) same of) c.commit_anew.ensures.full

pub returns-in-Logged-clause-full : goal.returns-in-Logged-clause-full
returns-in-Logged-clause-full g c =
    let start = start_of c.args.hall.now in
    let old = c.args.caller.now in
    let x = c.flush_and_finish.new.caller in
    let by = by_at old.number (next_command old) in
    recorded_never start c.count.new.caller x by (IsOneOrBefore start (view x.pass).seen by (IsCommitOf old.session.levels.open_ids.items)) c.flush_and_finish.result (subst IsBegun (sym c.in-Logged.is) tt) c.flush_and_finish.ensures.commits

pub returns-in-Settling-clause-full : goal.returns-in-Settling-clause-full
returns-in-Settling-clause-full g c =
    let start = start_of c.args.hall.now in
    let old = c.args.caller.now in
    let x = c.finish.new.caller in
    let by = by_at old.number (next_command old) in
    recorded_never start c.count.new.caller x by (IsOneOrBefore start (view x.pass).seen by (IsCommitOf old.session.levels.open_ids.items)) c.finish.result (subst IsBegun (sym c.in-Settling.is) tt) c.finish.ensures.commits

pub returns-then-depth-eq0-clause-full : goal.returns-then-depth-eq0-clause-full
returns-then-depth-eq0-clause-full g c is = let two : refusals.NoTransaction ≡ refusals.Full = is in absurd cc

pub returns-in-Aborting-clause-full : goal.returns-in-Aborting-clause-full
returns-in-Aborting-clause-full g c is = let two : refusals.AbortPending ≡ refusals.Full = is in absurd cc

pub returns-in-Undoing-clause-full : goal.returns-in-Undoing-clause-full
returns-in-Undoing-clause-full g c is = let two : refusals.UndoPending ≡ refusals.Full = is in absurd cc
