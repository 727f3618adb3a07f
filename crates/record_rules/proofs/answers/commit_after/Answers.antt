use Rattle.std.proofs.Common.{sym, ap, ◌∙◌}
use Rattle.std.proofs.lemmas.Bool.{false≢true}
use Rattle.record_rules.specs.Answered.{is_not_done}
use Rattle.record_rules.proofs.Staying.{commit_stays, commit_told}
use Rattle.record_rules.proofs.answers.commit_after.Goals as goal

pub returns-then-not-is_commit : goal.returns-then-not-is_commit
returns-then-not-is_commit c = commit_stays _ _ _ (λ is. false≢true (sym c.if-not-is_commit.true ∙ c.is_commit.ensures.1 is))

pub returns : goal.returns
returns c = c.is_not_done.ensures ∙ ap is_not_done (c.reply-2.ensures ∙ c.reply-reply.ensures) ∙ commit_told _ _ _ (c.is_commit.ensures.0 c.if-not-is_commit.false)
