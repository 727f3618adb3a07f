use Rattle.std.proofs.Common.{length}
use Rattle.event_rules.proofs.Fronting.{both_ways, comes_at, test_lt}
use Rattle.event_rules.proofs.front.may_come_at.Goals as goal

pub returns : goal.returns
returns c = λ base h e f before at.
    both_ways (test_lt c.args.place c.events_in.result (length c.args.places.now.events) c.events_in.ensures.count)
    (comes_at base h c.args.places.now f c.events_in.ensures.legal c.args.place e before at)
