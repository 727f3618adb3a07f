use Rattle.place_rules.proofs.Bounds.{next_bounds}
use Rattle.place_rules.proofs.did.is_right_answer.Goals as goal

pub near-requires-clause-to : goal.near-requires-clause-to
near-requires-clause-to g c = (next_bounds c.args.places.now.base c.args.places.now.events c.args.place c.next_at.result c.legal.ensures.base c.legal.ensures.legal c.next_at.ensures).1
