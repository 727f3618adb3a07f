use Rattle.std.proofs.Common.{refl, ◌≡◌, [], ap, ◌∙◌, sym, subst, ◌≤◌, Some, length, nat_le, arith, le-leb}
use Rattle.std.proofs.lemmas.Bool.{lt-leb}
use Rattle.hall.specs.Calls.{start_of}
use Rattle.tx_events.specs.declared.refusal.Refusal.TheVariants as refusals
use Rattle.tx_model.specs.declared.command.Command.TheVariants as commands
use Rattle.tx_model.specs.declared.reply.Reply.{Reply}
use Rattle.tx_model.specs.Replies.{alone}
use Rattle.session_levels.specs.Stands as levels
use Rattle.engine_parts.specs.Calls.{Ran, next_command}
use Rattle.engine_parts.specs.Sessions.{by_at, stance_of}
use Rattle.engine_parts.specs.Stages.{pending_in}
use Rattle.engine_parts.proofs.Calling.{may_counted, ran_held, ran_refused}
use Rattle.engine_parts.proofs.Refusing.{first_fails, first_holds, held_up}
use Rattle.xact_engine.proofs.Levelling.{done_or_not, ran_levels}
use Rattle.xact_engine.proofs.savepoints.release.Goals as goal

pub depth-requires : goal.depth-requires
depth-requires g c = (may_counted c.args._hall.now c.args.caller.now c.count.new.caller c.count.ensures c.requires).ready.at.stands.depth

pub release-reply-requires : goal.release-reply-requires
release-reply-requires g c = record { depth = (may_counted c.args._hall.now c.args.caller.now c.count.new.caller c.count.ensures c.requires).ready.at.stands.depth }

pub result_of-requires : goal.result_of-requires
result_of-requires g c =
    let start = start_of c.args._hall.now in
    let by = by_at c.args.caller.now.number (next_command c.args.caller.now) in
    let a = c.release-reply.ensures.acts start.base [] by in
    done_or_not start.base [] (alone [] []) by (levels.stance_of c.count.new.caller.session.levels) commands.Release c.release-reply.result tt a.allowed

pub returns-then-depth-lt2 : goal.returns-then-depth-lt2
returns-then-depth-lt2 g c =
    let old = c.args.caller.now in
    let s = stance_of old.session in
    let empty : length s.levels ≤ 1 = let d = c.depth.ensures in let t = c.if-depth-lt2.true in let same = ap (λ z. length (levels.levels_of z.level_ids.items z.unnamed)) c.count.ensures.levels in omega arith in
    ran_refused c.args._hall.now old c.count.new.caller commands.Release refusals.NoSavepoint c.count.ensures c.requires refl refl
    (sym (first_holds (nat_le (length s.levels) 1) refusals.NoSavepoint _ (le-leb (length s.levels) 1 empty))) empty

pub returns-in-Some : goal.returns-in-Some
returns-in-Some g c =
    let old = c.args.caller.now in
    let s = stance_of old.session in
    let stage = old.session.stage in
    let r = c.in-Some.refusal in
    let pending : pending_in stage ≡ Some r = sym (c.pending.ensures ∙ ap pending_in c.count.ensures.stage) ∙ c.in-Some.is in
    ran_held c.args._hall.now old c.count.new.caller commands.Release r c.count.ensures c.requires refl pending
    (first_fails (nat_le (length s.levels) 1) refusals.NoSavepoint _ (lt-leb (length s.levels) 1 (let d = c.depth.ensures in let t = c.if-depth-lt2.false in let same = ap (λ z. length (levels.levels_of z.level_ids.items z.unnamed)) c.count.ensures.levels in omega arith))
    ∙ held_up (pending_in stage) r _ pending)

pub returns : goal.returns
returns g c =
    let hall = c.args._hall.now in
    let old = c.args.caller.now in
    let u = c.count.new.caller in
    let t = c.release-reply.new.session in
    subst (λ (z : Reply). Ran hall (next_command old) commands.Release z old (record u { session = record u.session { levels = t } })) (sym c.result_of.ensures)
    (ran_levels hall old u t commands.Release c.release-reply.result tt (sym (c.pending.ensures ∙ ap pending_in c.count.ensures.stage) ∙ c.in_default.is) c.count.ensures c.requires c.release-reply.ensures)
