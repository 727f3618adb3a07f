use Rattle.life_tables.proofs.making.late_of.Given as goal

abbrev pub ghost-late_multis : goal.ghost-late_multis
ghost-late_multis g a = g.ok
