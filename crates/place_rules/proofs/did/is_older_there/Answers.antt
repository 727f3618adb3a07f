use Rattle.place_rules.proofs.Bounds.{next_bounds}
use Rattle.place_rules.proofs.did.is_older_there.Goals as goal

pub is_older-requires-clause-to : goal.is_older-requires-clause-to
is_older-requires-clause-to c = (next_bounds c.args.places.now.base c.args.places.now.events c.args.place c.next_at.result c.legal.ensures.base c.legal.ensures.legal c.next_at.ensures).1
