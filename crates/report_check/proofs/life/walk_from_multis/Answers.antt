use Rattle.std.proofs.Common.{◌≡◌, ◌∷◌, List, ap, subst, ◌∙◌}
use Rattle.checkpoint_rules.specs.Noting.{AreNoted}
use Rattle.reply_lines.specs.Known.{IsKnown}
use Rattle.reply_lines.specs.declared.known.Known.{Known}
use Rattle.report_check.specs.Stepping.{noting_of}
use Rattle.report_law.specs.ReportLines.{ReportLine, multi, placed, plain}
use Rattle.report_check.specs.Walked.{log_lines}
use Rattle.report_check.proofs.Sectioned.{broken_before, joined, lawful_part, whole_multis}
use Rattle.report_check.proofs.life.walk_from_multis.Goals as goal

pub walk_log-requires : goal.walk_log-requires
walk_log-requires g c =
    let r = c.requires in
    let xs : List ReportLine = plain ∷ placed (multi g.at.j) 0 g.at.j.life.multis in
    let part = lawful_part xs c.in_ok-lines.field-0 c.in-Lawful.lines c.in-Lawful.is (c.in_ok-lines.ensures.walked (placed (multi g.at.j) 0 g.at.j.life.multis) c.in_ok-walk_multis.ensures) in
    let same : c.args.known ≡ g.at.known = r.1.0.1 in
    let known : IsKnown g.at.j g.at.known = subst (IsKnown g.at.j) same r.1.0.0 in
    let multis : c.into_multis-multis.result ≡ g.at.known.multi_places = c.into_multis-multis.ensures ∙ ap (λ (k : Known). k.multi_places) same in
    let noted : AreNoted (noting_of g.at.j g.at.j.steps g.at.known.multi_places.events) g.at.known.places c.args.checkpoints.now =
    subst (λ (k : Known). AreNoted (noting_of g.at.j g.at.j.steps k.multi_places.events) k.places c.args.checkpoints.now) same r.1.1.1.1.1.0 in
    (r.0, ((known, multis), (r.1.1.0, (r.1.1.1.0, (noted, (r.1.1.1.1.1.1, whole_multis g.at.j part.0))))))

pub returns-in_ok-walk_log-in-Lawful : goal.returns-in_ok-walk_log-in-Lawful
returns-in_ok-walk_log-in-Lawful g c =
    let xs : List ReportLine = plain ∷ placed (multi g.at.j) 0 g.at.j.life.multis in
    let part = lawful_part xs c.in_ok-lines.field-0 c.in-Lawful.lines c.in-Lawful.is (c.in_ok-lines.ensures.walked (placed (multi g.at.j) 0 g.at.j.life.multis) c.in_ok-walk_multis.ensures) in
    joined c.behind.result c.in-Lawful.lines c.in_ok-walk_log-in-Lawful.field-0 xs (log_lines c.args.report.now.crash g.at.j) c.behind.ensures part.0 part.1 c.in_ok-walk_log-in-Lawful.ensures

pub returns-in-Broken : goal.returns-in-Broken
returns-in-Broken g c =
    broken_before (plain ∷ placed (multi g.at.j) 0 g.at.j.life.multis) (log_lines c.args.report.now.crash g.at.j) c.in_ok-lines.field-0 c.in-Broken.lines c.in-Broken.is
    (c.in_ok-lines.ensures.walked (placed (multi g.at.j) 0 g.at.j.life.multis) c.in_ok-walk_multis.ensures)
