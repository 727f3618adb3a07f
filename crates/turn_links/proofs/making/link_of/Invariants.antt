use Rattle.turn_links.proofs.making.link_of.Given as goal

abbrev pub ghost-far_of : goal.ghost-far_of
ghost-far_of g a = g.all
