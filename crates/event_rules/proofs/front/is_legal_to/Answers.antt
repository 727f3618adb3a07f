use Rattle.std.proofs.Common.{length}
use Rattle.event_rules.proofs.Fronting.{both_ways, legal_to, test_le}
use Rattle.event_rules.proofs.front.is_legal_to.Goals as goal

pub returns : goal.returns
returns c = λ base h f l.
    both_ways (test_le c.args.to c.events_in.result (length c.args.places.now.events) c.events_in.ensures.count)
    (legal_to base h c.args.places.now f c.events_in.ensures.legal c.args.to l)
