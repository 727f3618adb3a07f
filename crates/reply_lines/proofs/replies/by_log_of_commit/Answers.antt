use Rattle.std.proofs.Common.{◌↔◌, subst, sym}
use Rattle.std.specs.Prelude.{IsTrue}
use Rattle.tx_events.specs.declared.refusal.Refusal.{Refusal}
use Rattle.tx_model.specs.declared.command.Command.TheVariants as commands
use Rattle.tx_model.specs.declared.reply.Reply.TheVariants as replies
use Rattle.reply_lines.specs.At.{IsLawfulOf, before_at, lines_at, multi_span_at, rounds_at, span_at, stance_at}
use Rattle.reply_lines.proofs.replies.by_log_of_commit.Goals as goal

pub returns-in-Full : goal.returns-in-Full
returns-in-Full g c = subst (λ (r : Refusal). IsTrue c.by_full_commit.result ↔ IsLawfulOf g.at c.args.by commands.Commit (replies.Refused r)) (sym c.in-Full.is) c.by_full_commit.ensures

pub returns-in_default : goal.returns-in_default
returns-in_default g c = c.is_lawful_refusal.ensures g.at.j (rounds_at g.at) (lines_at g.at) (before_at g.at) (span_at g.at) (multi_span_at g.at) c.args.by (stance_at g.at c.args.by) c.requires.0.log_end
