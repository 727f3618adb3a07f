use Rattle.report_law.specs.Begun.{begun_from}
use Rattle.report_check.proofs.lives.next_life.Given as goal

abbrev pub ghost-walk_life : goal.ghost-walk_life
ghost-walk_life a = record { begun = begun_from a.before.now a.report.now.life; report = a.report.now }
