use Rattle.multi_rules.proofs.one.span_of.Given as goal

abbrev pub ghost-unseen : goal.ghost-unseen
ghost-unseen g a = g.of.ids

abbrev pub ghost-is_carried_past : goal.ghost-is_carried_past
ghost-is_carried_past g a = g.of.round
