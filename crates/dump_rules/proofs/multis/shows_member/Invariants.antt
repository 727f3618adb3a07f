use Rattle.dump_rules.proofs.multis.shows_member.Given as goal

abbrev pub ghost-shows_member_of : goal.ghost-shows_member_of
ghost-shows_member_of g a = g.b
