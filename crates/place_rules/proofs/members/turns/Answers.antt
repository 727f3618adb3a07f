use Rattle.place_rules.proofs.Bounds.{next_bounds}
use Rattle.place_rules.proofs.members.turns.Goals as goal

pub near-requires-clause-to : goal.near-requires-clause-to
near-requires-clause-to c = (next_bounds c.args.places.now.base c.args.places.now.events c.args.to c.next_at.result c.legal.ensures.base c.legal.ensures.legal c.next_at.ensures).1
