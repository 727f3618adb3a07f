use Rattle.multi_rules.proofs.warned.is_multi_warned.Given as goal

abbrev pub ghost-is_given_late : goal.ghost-is_given_late
ghost-is_given_late g a = g.by
