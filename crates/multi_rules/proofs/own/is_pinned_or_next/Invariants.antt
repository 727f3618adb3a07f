use Rattle.multi_rules.proofs.own.is_pinned_or_next.Given as goal

abbrev pub ghost-is_any_place : goal.ghost-is_any_place
ghost-is_any_place g a = g.o
