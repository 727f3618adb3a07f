use Rattle.std.proofs.Common.{refl, sym, ◌∙◌}
use Rattle.reply_rules.proofs.Faulty.{faults_at}
use Rattle.reply_rules.proofs.faults.are_log_faults.Goals as goal

pub returns-then-is_faulty : goal.returns-then-is_faulty
returns-then-is_faulty c = (
  λ t. faults_at c.args.steps.now c.loop-step.step-index c.step-item.result c.loop-step-test.true c.step-item.is (sym c.is_faulty.ensures ∙ c.if-is_faulty.true),
  λ f. refl,
)
