use Rattle.place_rules.proofs.asked.status_at.Given as goal

abbrev pub ghost-was_visible : goal.ghost-was_visible
ghost-was_visible g a = g.ids
