use Rattle.report_check.proofs.records.walk_records.Given as goal

abbrev pub ghost-first_unlawful_record : goal.ghost-first_unlawful_record
ghost-first_unlawful_record g a = g.at.j
