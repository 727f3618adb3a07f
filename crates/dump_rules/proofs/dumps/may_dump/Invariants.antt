use Rattle.dump_rules.proofs.dumps.may_dump.Given as goal

abbrev pub ghost-may_show : goal.ghost-may_show
ghost-may_show g a = g.d
