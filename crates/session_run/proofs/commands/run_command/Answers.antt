use Rattle.std.proofs.Common.{◌≡◌, subst, sym, ◌∙◌}
use Rattle.hall.specs.Calls.{start_of, view}
use Rattle.tx_model.specs.declared.command.Command.{Command}
use Rattle.tx_model.specs.declared.reply.Reply.{Reply}
use Rattle.life_law.specs.Refused.{by_members, refused_by_members}
use Rattle.engine_parts.specs.Calls.{next_command}
use Rattle.engine_parts.specs.Sessions.{by_at}
use Rattle.session_promise.specs.Promise.{IsMadeFor, IsRaisedAsTold}
use Rattle.session_run.proofs.Telling.{made_by, raised_by, trimmed_by}
use Rattle.session_run.proofs.commands.run_command.Goals as goal

pub returns-in-Multi-clause-made : goal.returns-in-Multi-clause-made
returns-in-Multi-clause-made g c = λ pairs is. (
  subst (λ (z : Reply × Command). by_members z.0 ≡ refused_by_members z.1) (λ j. (sym c.given.ensures j, sym c.in-Multi.is j)) c.multi.ensures.words,
  subst (IsMadeFor (start_of c.args.hall.now) (view c.multi.new.caller.pass).seen c.args.caller.now.number) (sym c.given.ensures) (made_by (start_of c.args.hall.now) (view c.multi.new.caller.pass).seen c.args.caller.now.number c.multi.result c.multi.ensures.done),
)

pub returns-in-Trim-clause-trimmed : goal.returns-in-Trim-clause-trimmed
returns-in-Trim-clause-trimmed g c = λ is done.
    trimmed_by (start_of c.args.hall.now) (view c.args.caller.now.pass).seen (view c.trim.new.caller.pass).seen (by_at c.args.caller.now.number (next_command c.args.caller.now)) c.trim.result c.trim.ensures.trimmed (sym c.done-in-Trim.ensures ∙ done)

pub returns-in-MultiFreeze-clause-raised : goal.returns-in-MultiFreeze-clause-raised
returns-in-MultiFreeze-clause-raised g c = λ multi is.
    subst (λ (z : Reply × Command). IsRaisedAsTold g.P.PageDisk.tells (start_of c.args.hall.now) (view c.multi_freeze.new.caller.pass).seen (by_at c.args.caller.now.number (next_command c.args.caller.now)) z.1 z.0) (λ j. (sym c.done-in-MultiFreeze.ensures j, sym c.in-MultiFreeze.is j))
    (raised_by g.P.PageDisk.tells (start_of c.args.hall.now) (view c.multi_freeze.new.caller.pass).seen (by_at c.args.caller.now.number (next_command c.args.caller.now)) c.in-MultiFreeze.multi c.multi_freeze.result c.multi_freeze.ensures.recorded)
