use Rattle.multi_rules.proofs.MultiPlacesRead.{reading_is}
use Rattle.multi_rules.proofs.reading.multi_reading_of.Goals as goal

pub returns : goal.returns
returns g c = reading_is g.h c.args.by c.args.start c.args.to c.read_back-from.result c.max.result c.requires.1.1.1 c.read_back-from.ensures c.max.ensures
