use Rattle.std.proofs.Common.{◌+◌, List, refl, ap, drop, length, arith}
use Rattle.tx_model.specs.declared.report.Step.{Step}
use Rattle.tx_model.specs.declared.report.LifeReport.{LifeReport}
use Rattle.report_read.specs.Item as items
use Rattle.report_read.specs.Grammar.{after, may_stand, no_counts}
use Rattle.report_read.proofs.Standing.{plain_taken}
use Rattle.report_read.proofs.take.take_life.Goals as goal

pub returns-clause-taken : goal.returns-clause-taken
unfolding no_counts
returns-clause-taken c =
    let t = c.args.told.now in
    let n = length c.items.result.now + 1 in
    let x = items.life n c.in_ok-start.start in
    plain_taken t x _ (drop 1 c.args.line.now) (ap (may_stand x) c.requires.stage) (refl, ap (λ (ls : List LifeReport). length ls + 1) c.items.ensures, omega arith, c.in_ok-start.ensures.found.fit) c.in_ok-start.ensures.found.text refl
    (ap (λ (ss : List Step). record (after t x) { steps = ss }) c.new.ensures)
