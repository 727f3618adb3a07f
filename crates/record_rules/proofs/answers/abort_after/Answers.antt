use Rattle.std.proofs.Common.{sym, ap, ◌∙◌}
use Rattle.std.proofs.lemmas.Bool.{false≢true}
use Rattle.record_rules.specs.Answered.{is_disk_fault}
use Rattle.record_rules.proofs.Staying.{abort_stays, abort_told}
use Rattle.record_rules.proofs.answers.abort_after.Goals as goal

pub returns-then-not-is_abort : goal.returns-then-not-is_abort
returns-then-not-is_abort c = abort_stays _ _ _ (λ is. false≢true (sym c.if-not-is_abort.true ∙ c.is_abort.ensures.1 is))

pub returns : goal.returns
returns c = c.is_disk_fault.ensures ∙ ap is_disk_fault (c.reply-2.ensures ∙ c.reply-reply.ensures) ∙ abort_told _ _ _ (c.is_abort.ensures.0 c.if-not-is_abort.false)
