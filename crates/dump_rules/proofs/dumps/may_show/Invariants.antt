use Rattle.dump_rules.proofs.Showing.{behind_of}
use Rattle.dump_rules.proofs.dumps.may_show.Given as goal

abbrev pub ghost-shows_all : goal.ghost-shows_all
ghost-shows_all g a = behind_of g.d a.places.now.events a.place a.multis.now.events a.multi_place
