use Rattle.std.proofs.Common.{[], ◌∷◌, ◌++◌, refl, subst}
use Rattle.tx_model.specs.declared.report.Life.{Life}
use Rattle.report_law.specs.Records.{IsLawfulLog}
use Rattle.report_law.specs.ReportLines.{log, logged, placed, plain}
use Rattle.report_check.proofs.Sectioned.{ended, log_broken, whole_reached}
use Rattle.report_check.proofs.life.walk_log.Goals as goal

pub returns-then-not-is_lawful_log : goal.returns-then-not-is_lawful_log
returns-then-not-is_lawful_log g c = log_broken c.args.report.now.crash g.at.j (placed (logged g.at.j) 0 g.at.j.life.recs ++ plain ∷ []) c.args.report.now.life c.is_lawful_log.result c.requires.0.life c.if-not-is_lawful_log.true c.is_lawful_log.ensures

pub walk_records-requires : goal.walk_records-requires
walk_records-requires g c =
    let r = c.requires in
    (r.0, (r.1.0, (r.1.1.0, (r.1.1.1.0, (r.1.1.1.1.1.0, (r.1.1.1.1.1.1, r.1.1.1.1.0 (whole_reached g.at.j g.at.known r.1.0.0 r.1.1.1.1.1.0 r.1.1.1.1.1.1)))))))

pub returns : goal.returns
returns g c =
    let lawful : IsLawfulLog c.args.report.now.crash g.at.j.life = subst (λ (l : Life). IsLawfulLog c.args.report.now.crash l) c.requires.0.life (c.is_lawful_log.ensures.0 c.if-not-is_lawful_log.false) in
    ended c.before_plain.result c.in_ok-behind.field-0 (log c.args.report.now.crash g.at.j ∷ placed (logged g.at.j) 0 g.at.j.life.recs) c.before_plain.ensures
    (c.in_ok-behind.ensures (log c.args.report.now.crash g.at.j ∷ []) (placed (logged g.at.j) 0 g.at.j.life.recs) (lawful, tt) refl c.in_ok-records.ensures)
