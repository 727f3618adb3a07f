use Rattle.std.proofs.Common.{◌↔◌, sym, subst}
use Rattle.std.specs.Prelude.{IsTrue}
use Rattle.tx_events.specs.declared.refusal.Refusal.{Refusal}
use Rattle.tx_model.specs.declared.reply.Reply.TheVariants as replies
use Rattle.report_law.specs.Steps.{AreJudged, IsLawfulReply}
use Rattle.reply_rules.proofs.refusals.is_lawful_refusal.Goals as goal

pub returns-in-Full : goal.returns-in-Full
returns-in-Full c = λ j rounds lines before round multi_round by s end.
    subst (λ (r : Refusal). IsTrue c.is_lawful_full.result ↔ IsLawfulReply (AreJudged j rounds lines) j before round multi_round by s c.args.command.now (replies.Refused r))
    (sym c.in-Full.is) (c.is_lawful_full.ensures j rounds lines before round multi_round by s end)
