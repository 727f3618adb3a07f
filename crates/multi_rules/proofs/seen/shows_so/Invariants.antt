use Rattle.multi_rules.proofs.seen.shows_so.Given as goal

abbrev pub ghost-was_visible : goal.ghost-was_visible
ghost-was_visible g a = g.ids
