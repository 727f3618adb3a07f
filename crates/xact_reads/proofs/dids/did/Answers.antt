use Rattle.std.proofs.Common.{List, not, nat_eq, arith, refl, subst}
use Rattle.hall.specs.Calls.{view, start_of}
use Rattle.tx_model.specs.declared.command.Command.TheVariants as commands
use Rattle.tx_model.specs.declared.reply.Reply.TheVariants as replies
use Rattle.tx_events.specs.Running.{open_ids}
use Rattle.tx_core.specs.declared.entry.Entry.{Entry}
use Rattle.tx_core.specs.Entries.{history}
use Rattle.engine_parts.specs.Adding.{IsPlain, MayMeet}
use Rattle.engine_parts.specs.Sessions.{by_at, stance_of}
use Rattle.engine_parts.proofs.Adding.{adds_nothing, adds_wider, met_leaves, plain_leaves}
use Rattle.engine_parts.proofs.Calling.{may_counted, own_counted}
use Rattle.engine_parts.proofs.Stepping.{went_nowhere}
use Rattle.engine_parts.proofs.Unmoved.{ran_read}
use Rattle.xact_reads.specs.Ancestors.{StoresTell}
use Rattle.xact_reads.proofs.Telling.{special_told}
use Rattle.xact_reads.proofs.dids.did.Goals as goal

pub returns-then-x-lt3-clause-ran : goal.returns-then-x-lt3-clause-ran
returns-then-x-lt3-clause-ran g c =
    let old = c.args.caller.now in
    let u = c.count.new.caller in
    let x = c.args.x in
    let may = may_counted c.args.hall.now old u c.count.ensures c.requires in
    ran_read c.args.hall.now old u u (commands.Did x) (replies.Did (not (nat_eq x.number 0))) c.count.ensures c.requires (own_counted c.args.hall.now old u c.count.ensures c.requires.step.own) may.ready (went_nowhere u.number (view u.pass).seen) refl refl refl
    (adds_nothing (by_at u.number u.session.levels.commands) _ (view u.pass).seen) (λ _. special_told x.number, λ normal. absurd (omega arith)) refl refl refl refl refl refl refl

pub did_near-requires-clause-ready : goal.did_near-requires-clause-ready
did_near-requires-clause-ready g c = (may_counted c.args.hall.now c.args.caller.now c.count.new.caller c.count.ensures c.requires).ready

pub returns-in-Ok-clause-ran : goal.returns-in-Ok-clause-ran
returns-in-Ok-clause-ran g c =
    let e = c.in-Ok.ensures in
    let u = c.count.new.caller in
    let reply = replies.Did c.in-Ok.did in
    ran_read c.args.hall.now c.args.caller.now u c.did_near.new.caller (commands.Did c.args.x) reply c.count.ensures c.requires e.own e.ready e.went e.same.0 e.same.1 refl
    (adds_wider (by_at u.number u.session.levels.commands) IsPlain _ (view u.pass).seen (view c.did_near.new.caller.pass).seen (plain_leaves (commands.Did c.args.x) (stance_of u.session) u.session.stage (open_ids u.number (history (view u.pass).seen)) reply) e.adds) e.allowed
    refl e.standing refl refl refl refl e.standing

pub returns-in-Err-clause-ran : goal.returns-in-Err-clause-ran
returns-in-Err-clause-ran g c =
    let e = c.in-Err.ensures in
    let u = c.count.new.caller in
    ran_read c.args.hall.now c.args.caller.now u c.did_near.new.caller (commands.Did c.args.x) (replies.Refused c.in-Err.refusal) c.count.ensures c.requires e.own e.ready e.went e.same.0 e.same.1 refl
    (adds_wider (by_at u.number u.session.levels.commands) (MayMeet c.in-Err.refusal) _ (view u.pass).seen (view c.did_near.new.caller.pass).seen (met_leaves (commands.Did c.args.x) (stance_of u.session) u.session.stage (open_ids u.number (history (view u.pass).seen)) c.in-Err.refusal) e.adds) e.allowed
    refl e.standing refl refl refl refl e.standing

pub returns-then-x-lt3-clause-said : goal.returns-then-x-lt3-clause-said
returns-then-x-lt3-clause-said g c normal told = absurd (omega arith)

pub returns-in-Ok-clause-said : goal.returns-in-Ok-clause-said
returns-in-Ok-clause-said g c normal told =
    subst (λ (lists : List (List Entry)). StoresTell (start_of c.args.hall.now) lists (view c.did_near.new.caller.pass).seen c.args.x.number c.in-Ok.did) (λ j. (view (c.count.ensures.pass j)).seen) (c.in-Ok.ensures.said told)
