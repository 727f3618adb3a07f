use Rattle.place_rules.proofs.asked.stood_so.Given as goal

abbrev pub ghost-status_at : goal.ghost-status_at
ghost-status_at g a = g.asking.ids

abbrev pub ghost-asks : goal.ghost-asks
ghost-asks g a = g.asking.by
