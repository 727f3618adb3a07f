use Rattle.std.proofs.Common.{sym, ap, ◌∙◌}
use Rattle.tx_model.specs.declared.command.Command.{Command}
use Rattle.life_law.specs.Pending.{pending_after}
use Rattle.standing_rules.proofs.Ends.{logged_is}
use Rattle.standing_rules.proofs.pending.pending_after.Goals as goal

pub returns-in-Commit : goal.returns-in-Commit
returns-in-Commit c = λ recs s e.
    c.after_commit.ensures ∙ logged_is recs s c.args.recorded c.args.old c.args.reply.now e ∙ ap (λ (command : Command). pending_after recs s c.args.old command c.args.reply.now) (sym c.in-Commit.is)
