use Rattle.history_places.proofs.multis.MultiPlaces.new.Given as goal

abbrev pub ghost-by : goal.ghost-by
ghost-by a = a._about.now.now
