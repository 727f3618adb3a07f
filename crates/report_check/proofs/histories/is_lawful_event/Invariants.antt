use Rattle.report_check.proofs.histories.is_lawful_event.Given as goal

abbrev pub ghost-is_its_event : goal.ghost-is_its_event
ghost-is_its_event g a = g.j
