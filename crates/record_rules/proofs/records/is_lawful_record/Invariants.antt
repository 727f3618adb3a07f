use Rattle.record_rules.proofs.records.is_lawful_record.Given as goal

abbrev pub ghost-is_record_at : goal.ghost-is_record_at
ghost-is_record_at g a = g.j
