use Rattle.std.proofs.Common.{◌≡◌, ℕ, List, Some, take, subst}
use Rattle.std.specs.List.{slice_get}
use Rattle.tx_model.specs.declared.report.LifeReport.{LifeReport}
use Rattle.report_law.specs.Begun.{begun_from}
use Rattle.report_law.specs.ReportLines.{life_lines}
use Rattle.report_check.proofs.Sections.{lives_next}
use Rattle.report_check.specs.Keeping.{IsLeft}
use Rattle.report_check.specs.Walked.{IfLawful, IsWalked}
use Rattle.report_check.specs.declared.walked.Walked.{Walked}
use Rattle.report_check.proofs.LifeByLife.{broken_there, counted_on, left_at, life_at}
use Rattle.report_check.proofs.lives.first_in_lives.Goals as goal

pub returns-in-Broken : goal.returns-in-Broken
returns-in-Broken c =
    let lives : List LifeReport = c.args.lives.now in
    let p : ℕ = c.loop-place.place in
    let r : LifeReport = c.index-lives-place.result in
    let at : slice_get lives p ≡ Some r = life_at lives p r c.loop-place-test.true c.index-lives-place.is in
    let broken = subst (λ (w : Walked). IsWalked (life_lines (take p lives) r) w) c.in-Broken.is c.in_ok-lines.ensures.walked in
    broken_there lives p r c.loop-place.count c.in-Broken.lines c.in_ok-plus-in-Broken.field-0 c.loop-place.invariant.lawful at c.loop-place.invariant.counted c.in_ok-plus-in-Broken.ensures broken

pub loop-place-preserved : goal.loop-place-preserved
loop-place-preserved c =
    let lives : List LifeReport = c.args.lives.now in
    let p : ℕ = c.loop-place.place in
    let r : LifeReport = c.index-lives-place.result in
    let at : slice_get lives p ≡ Some r = life_at lives p r c.loop-place-test.true c.index-lives-place.is in
    let walked = subst (λ (w : Walked). IsWalked (life_lines (take p lives) r) w) c.in-Lawful.is c.in_ok-lines.ensures.walked in
    let left = subst (λ (w : Walked). IfLawful w (IsLeft (begun_from (take p lives) r.life) (take p lives) c.next_life.new.kept)) c.in-Lawful.is c.in_ok-lines.ensures.left in
    record {
      lawful = lives_next lives p r c.loop-place.invariant.lawful at walked.0;
      counted = counted_on lives p r c.loop-place.count c.in-Lawful.lines c.in_ok-count-in-Lawful.count at c.loop-place.invariant.counted walked.1 c.in_ok-count-in-Lawful.ensures;
      left = left_at lives p r c.next_life.new.kept at left;
    }
