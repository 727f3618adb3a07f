use Rattle.report_check.proofs.StepByStep.{none_are}
use Rattle.report_check.proofs.steps.here_of.Goals as goal

pub round_at-requires : goal.round_at-requires
round_at-requires g c =
    let r = c.requires in
    let p = r.1.1 in
    let are = none_are g.of.j g.of.round g.of.step r.1.0 c.args.passed.now.lines p.size in
    (r.0, (are.0, (are.1, (are.2, are.3))))
