use Rattle.report_check.proofs.life.walk_log.Given as goal

abbrev pub ghost-walk_records : goal.ghost-walk_records
ghost-walk_records g a = g.at
