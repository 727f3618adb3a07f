use Rattle.std.proofs.Common.{◌↔◌, subst, sym}
use Rattle.std.specs.Prelude.{IsTrue}
use Rattle.tx_model.specs.declared.command.Command.{Command}
use Rattle.tx_model.specs.declared.reply.Reply.TheVariants as replies
use Rattle.reply_lines.specs.At.{IsLawfulOf, before_at, lines_at, multi_span_at, rounds_at, span_at, stance_at}
use Rattle.reply_lines.proofs.replies.by_log.Goals as goal

pub returns-in-Commit : goal.returns-in-Commit
returns-in-Commit g c = subst (λ (k : Command). IsTrue c.by_log_of_commit.result ↔ IsLawfulOf g.at c.args.by k (replies.Refused c.args.refusal.now)) (sym c.in-Commit.is) c.by_log_of_commit.ensures

pub returns-in_default : goal.returns-in_default
returns-in_default g c = c.is_lawful_refusal.ensures g.at.j (rounds_at g.at) (lines_at g.at) (before_at g.at) (span_at g.at) (multi_span_at g.at) c.args.by (stance_at g.at c.args.by) c.requires.0.log_end
