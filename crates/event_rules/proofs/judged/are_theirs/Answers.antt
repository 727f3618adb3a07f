use Rattle.std.proofs.Common.{map}
use Rattle.tx_events.specs.Events.{by_of}
use Rattle.event_rules.proofs.Judging.{few_steps, theirs_told}
use Rattle.event_rules.proofs.judged.are_theirs.Goals as goal

pub is_reached-requires : goal.is_reached-requires
is_reached-requires g c = few_steps g.j c.args.lines c.args.own.now (map by_of g.j.life.events) c.requires.0 c.requires.1

pub returns : goal.returns
returns g c = theirs_told by_of g.j c.args.lines c.requires.1 g.j.life.events c.args.own.now c.is_reached.result c.requires.0 c.is_reached.ensures
