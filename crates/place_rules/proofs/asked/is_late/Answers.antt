use Rattle.std.proofs.Common.{take}
use Rattle.tx_events.proofs.GivenIds.{legal_take}
use Rattle.history_check.proofs.OldestBounds.{oldest_to}
use Rattle.place_rules.proofs.asked.is_late.Goals as goal

pub of-requires : goal.of-requires
of-requires c = oldest_to c.args.places.now.base (take c.args.place c.args.places.now.events) c.oldest_at.result c.legal.ensures.base (legal_take c.args.places.now.base c.args.places.now.events c.args.place c.legal.ensures.legal) c.oldest_at.ensures
