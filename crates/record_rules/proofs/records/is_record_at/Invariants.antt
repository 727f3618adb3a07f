use Rattle.record_rules.proofs.records.is_record_at.Given as goal

abbrev pub ghost-is_true_record : goal.ghost-is_true_record
ghost-is_true_record g a = g.j
