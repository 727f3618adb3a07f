use Rattle.event_rules.proofs.Comparing.{multi_tells}
use Rattle.event_rules.proofs.same.MultiEventSame.is_same.Goals as goal

pub returns : goal.returns
returns c = multi_tells c.args.self.now c.args.other.now c.same_multi.result c.same_multi.ensures
