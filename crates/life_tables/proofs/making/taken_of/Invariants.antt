use Rattle.life_tables.proofs.making.taken_of.Given as goal

abbrev pub ghost-taken_by_lines : goal.ghost-taken_by_lines
ghost-taken_by_lines g a = g.life
