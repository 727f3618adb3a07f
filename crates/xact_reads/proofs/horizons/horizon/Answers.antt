use Rattle.std.proofs.Common.{refl}
use Rattle.hall.specs.Calls.{view, start_of}
use Rattle.tx_model.specs.declared.command.Command.TheVariants as commands
use Rattle.tx_model.specs.declared.reply.Reply.TheVariants as replies
use Rattle.tx_events.specs.Running.{open_ids}
use Rattle.tx_core.specs.Entries.{history}
use Rattle.engine_parts.specs.Adding.{IsPlain}
use Rattle.engine_parts.specs.Sessions.{by_at, stance_of}
use Rattle.engine_parts.proofs.Adding.{adds_wider, plain_leaves}
use Rattle.engine_parts.proofs.Calling.{may_counted, own_counted}
use Rattle.engine_parts.proofs.Unmoved.{at_same, look_adds, ran_read}
use Rattle.xact_reads.proofs.Replying.{xmin_answer}
use Rattle.xact_reads.proofs.horizons.horizon.Goals as goal

pub read_horizons-requires-clause-own : goal.read_horizons-requires-clause-own
read_horizons-requires-clause-own g c = own_counted c.args.hall.now c.args.caller.now c.count.new.caller c.count.ensures c.requires.step.own

pub read_horizons-requires-clause-laid : goal.read_horizons-requires-clause-laid
read_horizons-requires-clause-laid g c = c.requires.step.laid

pub read_horizons-requires-clause-ready : goal.read_horizons-requires-clause-ready
read_horizons-requires-clause-ready g c = (may_counted c.args.hall.now c.args.caller.now c.count.new.caller c.count.ensures c.requires).ready

pub returns : goal.returns
returns g c =
    let old = c.args.caller.now in
    let u = c.count.new.caller in
    let w = c.read_horizons.new.caller in
    let e = c.read_horizons.ensures in
    let start = start_of c.args.hall.now in
    let may = may_counted c.args.hall.now old u c.count.ensures c.requires in
    ran_read c.args.hall.now old u w commands.Horizon (replies.Horizon c.read_horizons.result.oldest_xmin) c.count.ensures c.requires e.own e.ready e.went e.same.0 e.same.1 refl
    (adds_wider (by_at u.number u.session.levels.commands) IsPlain _ (view u.pass).seen (view w.pass).seen (plain_leaves commands.Horizon (stance_of u.session) u.session.stage (open_ids u.number (history (view u.pass).seen)) (replies.Horizon c.read_horizons.result.oldest_xmin))
    (look_adds start (view u.pass) (view w.pass) u.number u.session IsPlain may.ready.at (λ number. tt) tt e.section))
    (xmin_answer start (view u.pass) (view w.pass) u.number u.session c.read_horizons.result.oldest_xmin (at_same start (view w.pass) u.number w.number u.session w.session e.same.1 e.same.0 e.ready) e.went e.horizons.xmin)
    refl refl refl refl refl refl refl
