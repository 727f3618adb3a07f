use Rattle.std.proofs.Common.{◌≡◌, ◌+◌, ℕ, List, [], Option, Some, subst, sym}
use Rattle.std.specs.List.{AllByRecursion}
use Rattle.tx_model.specs.declared.report.LifeReport.{LifeReport}
use Rattle.report_law.specs.ReportLines.{IsUnlawful, lives_lines}
use Rattle.life_tables.specs.Numbered.{IsNumbered}
use Rattle.report_check.specs.Walk.{IsFound}
use Rattle.report_check.proofs.Sections.{report_broken}
use Rattle.report_check.proofs.Numbering.{lives_numbered}
use Rattle.report_check.proofs.first.first_in_report.Goals as goal

pub first_in_lives-requires : goal.first_in_lives-requires
first_in_lives-requires c =
    let items : c.items.result.now ≡ c.args.report.now.lives = c.items.ensures in
    subst (AllByRecursion IsNumbered) (sym items) (lives_numbered c.args.report.now c.requires)

pub returns-in_ok-plus-in-Some : goal.returns-in_ok-plus-in-Some
returns-in_ok-plus-in-Some c =
    let items : c.items.result.now ≡ c.args.report.now.lives = c.items.ensures in
    let found = subst (λ (o : Option ℕ). IsFound (lives_lines [] c.items.result.now) o) c.in-Some.is c.in_ok-count.ensures in
    let sum : c.in_ok-plus-in-Some.field-0 ≡ c.in-Some.count + 2 = c.in_ok-plus-in-Some.ensures in
    subst (λ k. IsUnlawful c.args.report.now k) (sym sum) (report_broken c.args.report.now c.in-Some.count (subst (λ (t : List LifeReport). IsFound (lives_lines [] t) (Some c.in-Some.count)) items found))
