use Rattle.std.proofs.Common.{[], sym, refl, subst}
use Rattle.hall.specs.Calls.{start_of}
use Rattle.tx_model.specs.declared.command.Command.TheVariants as commands
use Rattle.tx_model.specs.declared.reply.Reply.{Reply}
use Rattle.tx_model.specs.Replies.{alone}
use Rattle.session_levels.specs.Stands as levels
use Rattle.engine_parts.specs.Calls.{Ran, next_command}
use Rattle.engine_parts.specs.Sessions.{by_at}
use Rattle.engine_parts.proofs.Calling.{may_counted}
use Rattle.xact_engine.proofs.Levelling.{done_or_not, ran_levels}
use Rattle.xact_engine.proofs.levels.begin.Goals as goal

pub begin-reply-requires : goal.begin-reply-requires
begin-reply-requires g c = record { depth = (may_counted c.args._hall.now c.args.caller.now c.count.new.caller c.count.ensures c.requires).ready.at.stands.depth }

pub result_of-requires : goal.result_of-requires
result_of-requires g c =
    let start = start_of c.args._hall.now in
    let by = by_at c.args.caller.now.number (next_command c.args.caller.now) in
    let a = c.begin-reply.ensures.acts start.base [] by in
    done_or_not start.base [] (alone [] []) by (levels.stance_of c.count.new.caller.session.levels) commands.Begin c.begin-reply.result tt a.allowed

pub returns : goal.returns
returns g c =
    let hall = c.args._hall.now in
    let old = c.args.caller.now in
    let u = c.count.new.caller in
    let t = c.begin-reply.new.session in
    subst (λ (z : Reply). Ran hall (next_command old) commands.Begin z old (record u { session = record u.session { levels = t } })) (sym c.result_of.ensures)
    (ran_levels hall old u t commands.Begin c.begin-reply.result tt refl c.count.ensures c.requires c.begin-reply.ensures)
