use Rattle.place_rules.proofs.Bounds.{next_bounds}
use Rattle.place_rules.proofs.members.is_ungiven_at.Goals as goal

pub has_ungiven-requires-clause-to : goal.has_ungiven-requires-clause-to
has_ungiven-requires-clause-to c = (next_bounds c.args.places.now.base c.args.places.now.events c.args.place c.next_at.result c.legal.ensures.base c.legal.ensures.legal c.next_at.ensures).1
