use Rattle.event_rules.proofs.multis.is_its_multi.Given as goal

abbrev pub ghost-stands : goal.ghost-stands
ghost-stands g a = g.j
