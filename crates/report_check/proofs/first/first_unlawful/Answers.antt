use Rattle.std.proofs.Common.{◌≡◌, ◌↔◌, ℕ, Option, Some, None}
use Rattle.std.proofs.lemmas.Result.{IfOk-weaker}
use Rattle.report_check.specs.Found.{IsTextJudgedAs}
use Rattle.report_check.specs.Judgement.{IsFirstUnlawful, IsLawfulText}
use Rattle.report_check.proofs.LifeByLife.{told_exactly}
use Rattle.report_check.proofs.first.first_unlawful.Goals as goal

pub returns-clause-none : goal.returns-clause-none
returns-clause-none c =
    IfOk-weaker c.judge_text.result (IsTextJudgedAs c.args.bytes.items) (λ (o : Option ℕ). (o ≡ None) ↔ IsLawfulText c.args.bytes.items) (λ o t. (told_exactly c.args.bytes.items o t).0) c.judge_text.ensures

pub returns-clause-some : goal.returns-clause-some
returns-clause-some c =
    IfOk-weaker c.judge_text.result (IsTextJudgedAs c.args.bytes.items) (λ (o : Option ℕ). (n : ℕ) → (o ≡ Some n) ↔ IsFirstUnlawful c.args.bytes.items n) (λ o t. (told_exactly c.args.bytes.items o t).1) c.judge_text.ensures
