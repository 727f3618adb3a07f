use Rattle.std.proofs.Common.{map}
use Rattle.tx_events.specs.Multis.{multi_by}
use Rattle.multi_rules.proofs.reading.multi_reading_of.Given as goal

abbrev pub ghost-read_back : goal.ghost-read_back
ghost-read_back g a = map multi_by g.h
