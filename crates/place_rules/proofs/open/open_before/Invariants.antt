use Rattle.std.proofs.Common.{map}
use Rattle.tx_events.specs.Events.{by_of}
use Rattle.place_rules.proofs.open.open_before.Given as goal

abbrev pub ghost-read_from : goal.ghost-read_from
ghost-read_from g a = map by_of g.life.events
