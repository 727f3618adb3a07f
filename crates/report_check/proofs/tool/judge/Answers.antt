use Rattle.std.proofs.Common.{ℕ, List}
use Rattle.report_check.specs.Checks.{Judges, TellsLine}
use Rattle.report_check.specs.Judgement.{IsFirstUnlawful}
use Rattle.report_check.specs.declared.ending.Ending.{Ending}
use Rattle.report_check.specs.declared.ending.Ending.TheVariants as endings
use Rattle.report_check.proofs.tool.judge.Goals as goal

told : (bytes : List ℕ) (n : ℕ) (e : Ending) → TellsLine n e → IsFirstUnlawful bytes n → Judges bytes e
told bytes n endings.Lawful t f = absurd t
told bytes n (endings.Unlawful text) t f = (n, t, f)
told bytes n endings.ReadFault t f = absurd t
told bytes n endings.Memory t f = tt

pub returns-in-Ok-Some : goal.returns-in-Ok-Some
returns-in-Ok-Some c = told c.args.bytes.items c.in-Ok-Some.line c.unlawful.result c.unlawful.ensures ((c.in-Ok-Some.ensures.some c.in-Ok-Some.line).0 c.in-Ok-Some.field-0-is)
