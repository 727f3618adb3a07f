use Rattle.place_rules.proofs.asked.asks_before.Given as goal

abbrev pub ghost-asks : goal.ghost-asks
ghost-asks g a = g.by
