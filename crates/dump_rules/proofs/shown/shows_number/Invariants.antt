use Rattle.dump_rules.proofs.shown.shows_number.Given as goal

abbrev pub ghost-shows_offset : goal.ghost-shows_offset
ghost-shows_offset g a = g.b

abbrev pub ghost-shows_member : goal.ghost-shows_member
ghost-shows_member g a = g.b
