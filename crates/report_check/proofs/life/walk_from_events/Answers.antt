use Rattle.std.proofs.Common.{◌∷◌, List, refl}
use Rattle.report_law.specs.ReportLines.{ReportLine, event, placed, plain}
use Rattle.report_check.specs.Walked.{behind_events}
use Rattle.report_check.proofs.Sectioned.{broken_before, joined, lawful_part, whole_legal}
use Rattle.report_check.proofs.life.walk_from_events.Goals as goal

pub walk_told-requires : goal.walk_told-requires
walk_told-requires g c =
    let r = c.requires in
    (r.0, (r.1.0, r.1.1.1.1.1.passed))

pub walk_from_multis-requires : goal.walk_from_multis-requires
walk_from_multis-requires g c =
    let r = c.requires in
    let xs : List ReportLine = plain ∷ placed (event g.j) 0 g.j.life.events in
    let part = lawful_part xs c.in_ok-lines.field-0 c.in-Lawful.lines c.in-Lawful.is c.in_ok-lines.ensures in
    (r.0, ((r.1.0, refl), (r.1.1.0, (r.1.1.1.0, (r.1.1.1.1.0, (r.1.1.1.1.1.noted, whole_legal g.j part.0))))))

pub returns-in_ok-walk_from_multis-in-Lawful : goal.returns-in_ok-walk_from_multis-in-Lawful
returns-in_ok-walk_from_multis-in-Lawful g c =
    let xs : List ReportLine = plain ∷ placed (event g.j) 0 g.j.life.events in
    let part = lawful_part xs c.in_ok-lines.field-0 c.in-Lawful.lines c.in-Lawful.is c.in_ok-lines.ensures in
    joined c.behind.result c.in-Lawful.lines c.in_ok-walk_from_multis-in-Lawful.field-0 xs (behind_events c.args.report.now.crash g.j) c.behind.ensures part.0 part.1 c.in_ok-walk_from_multis-in-Lawful.ensures

pub returns-in-Broken : goal.returns-in-Broken
returns-in-Broken g c = broken_before (plain ∷ placed (event g.j) 0 g.j.life.events) (behind_events c.args.report.now.crash g.j) c.in_ok-lines.field-0 c.in-Broken.lines c.in-Broken.is c.in_ok-lines.ensures
