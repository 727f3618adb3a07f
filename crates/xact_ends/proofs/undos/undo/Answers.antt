use Rattle.std.proofs.Common.{refl, ◌≡◌, ℕ, ◌≤◌, nat_le, ap, ◌∙◌, sym, subst, length, arith, le-leb}
use Rattle.std.proofs.lemmas.Bool.{lt-leb}
use Rattle.hall.specs.Calls.{start_of, view}
use Rattle.tx_events.specs.declared.refusal.Refusal.TheVariants as refusals
use Rattle.tx_model.specs.declared.command.Command.TheVariants as commands
use Rattle.session_levels.specs.Stands as levels
use Rattle.engine_parts.specs.declared.session.Stage.TheVariants as stages
use Rattle.engine_parts.specs.Sessions.{stance_of}
use Rattle.engine_parts.specs.Stages.{pending_in}
use Rattle.life_law.specs.Refused.{held_by}
use Rattle.engine_parts.proofs.Calling.{may_counted, ran_held, ran_refused}
use Rattle.engine_parts.proofs.Refusing.{first_fails, first_holds, held_up}
use Rattle.engine_parts.specs.declared.session.Stage.{Stage}
use Rattle.xact_ends.proofs.undos.undo.Goals as goal

pub returns-then-depth-lt2 : goal.returns-then-depth-lt2
returns-then-depth-lt2 g c =
    let old = c.args.caller.now in
    let s = stance_of old.session in
    let few : length s.levels ≤ 1 = let d = c.depth.ensures in let t = c.if-depth-lt2.true in let same = ap (λ z. length (levels.levels_of z.level_ids.items z.unnamed)) c.count.ensures.levels in omega arith in
    ran_refused c.args.hall.now old c.count.new.caller commands.Undo refusals.NoSavepoint c.count.ensures c.requires refl refl
    (sym (first_holds (nat_le (length s.levels) 1) refusals.NoSavepoint _ (le-leb (length s.levels) 1 few))) few

pub undo_open-requires-clause-may : goal.undo_open-requires-clause-may
undo_open-requires-clause-may g c = may_counted c.args.hall.now c.args.caller.now c.count.new.caller c.count.ensures c.requires

pub undo_open-requires-in-Undoing-clause-may : goal.undo_open-requires-in-Undoing-clause-may
undo_open-requires-in-Undoing-clause-may g c = may_counted c.args.hall.now c.args.caller.now c.count.new.caller c.count.ensures c.requires

pub returns-in-Logged : goal.returns-in-Logged
returns-in-Logged g c =
    let old = c.args.caller.now in
    let s = stance_of old.session in
    let stage = old.session.stage in
    let is : stage ≡ stages.Logged c.in-Logged.number = sym c.count.ensures.stage ∙ c.in-Logged.is in
    ran_held c.args.hall.now old c.count.new.caller commands.Undo refusals.CommitPending c.count.ensures c.requires refl (ap pending_in is)
    (first_fails (nat_le (length s.levels) 1) refusals.NoSavepoint _ (lt-leb (length s.levels) 1 (let d = c.depth.ensures in let t = c.if-depth-lt2.false in let same = ap (λ z. length (levels.levels_of z.level_ids.items z.unnamed)) c.count.ensures.levels in omega arith))
    ∙ held_up (held_by commands.Undo (pending_in stage)) refusals.CommitPending _ (ap (λ (z : Stage). held_by commands.Undo (pending_in z)) is))

pub returns-in-Settling : goal.returns-in-Settling
returns-in-Settling g c =
    let old = c.args.caller.now in
    let s = stance_of old.session in
    let stage = old.session.stage in
    let is : stage ≡ stages.Settling c.in-Settling.steps = sym c.count.ensures.stage ∙ c.in-Settling.is in
    ran_held c.args.hall.now old c.count.new.caller commands.Undo refusals.CommitPending c.count.ensures c.requires refl (ap pending_in is)
    (first_fails (nat_le (length s.levels) 1) refusals.NoSavepoint _ (lt-leb (length s.levels) 1 (let d = c.depth.ensures in let t = c.if-depth-lt2.false in let same = ap (λ z. length (levels.levels_of z.level_ids.items z.unnamed)) c.count.ensures.levels in omega arith))
    ∙ held_up (held_by commands.Undo (pending_in stage)) refusals.CommitPending _ (ap (λ (z : Stage). held_by commands.Undo (pending_in z)) is))

pub returns-in-Aborting : goal.returns-in-Aborting
returns-in-Aborting g c =
    let old = c.args.caller.now in
    let s = stance_of old.session in
    let stage = old.session.stage in
    let is : stage ≡ stages.Aborting = sym c.count.ensures.stage ∙ c.in-Aborting.is in
    ran_held c.args.hall.now old c.count.new.caller commands.Undo refusals.AbortPending c.count.ensures c.requires refl (ap pending_in is)
    (first_fails (nat_le (length s.levels) 1) refusals.NoSavepoint _ (lt-leb (length s.levels) 1 (let d = c.depth.ensures in let t = c.if-depth-lt2.false in let same = ap (λ z. length (levels.levels_of z.level_ids.items z.unnamed)) c.count.ensures.levels in omega arith))
    ∙ held_up (held_by commands.Undo (pending_in stage)) refusals.AbortPending _ (ap (λ (z : Stage). held_by commands.Undo (pending_in z)) is))
