use Rattle.multi_rules.proofs.not_yet.is_not_yet.Given as goal

abbrev pub ghost-is_below_a_pin : goal.ghost-is_below_a_pin
ghost-is_below_a_pin g a = g.w

abbrev pub ghost-may_wait : goal.ghost-may_wait
ghost-may_wait g a = g.w
