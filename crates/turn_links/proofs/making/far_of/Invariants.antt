use Rattle.turn_links.proofs.making.far_of.Given as goal

abbrev pub ghost-far_at : goal.ghost-far_at
ghost-far_at g a = g.own
