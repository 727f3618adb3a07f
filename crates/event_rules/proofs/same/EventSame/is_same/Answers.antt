use Rattle.event_rules.proofs.Comparing.{event_tells}
use Rattle.event_rules.proofs.same.EventSame.is_same.Goals as goal

pub returns : goal.returns
returns c = event_tells c.args.self.now c.args.other.now c.same_event.result c.same_event.ensures
