use Rattle.place_rules.proofs.did.is_right_answer.Given as goal

abbrev pub ghost-was_visible : goal.ghost-was_visible
ghost-was_visible g a = g.did.ids

abbrev pub ghost-is_known : goal.ghost-is_known
ghost-is_known g a = g.did
