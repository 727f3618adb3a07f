use Rattle.report_law.specs.Steps.{AreJudged}
use Rattle.reply_rules.proofs.Plainly.{plain_is}
use Rattle.reply_rules.proofs.plain.is_plain_reply.Goals as goal

pub returns : goal.returns
returns c = λ j rounds lines before round multi_round by.
    let i = c.is_plain.ensures in
    let p = plain_is (AreJudged j rounds lines) j before round multi_round by c.args.standing.now c.args.command.now c.args.reply.now c.requires.plain c.requires.standing c.requires.log in
    (λ t. p.0 (i.0 t), λ l. i.1 (p.1 l))
