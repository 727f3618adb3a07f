use Rattle.history_check.proofs.OldestBounds.{oldest_to}
use Rattle.history_places.proofs.places.stop_now.Goals as goal

pub of-requires : goal.of-requires
of-requires c = oldest_to c.args.replay.now.base c.args.replay.now.events c.oldest.result c.events-legal.ensures.base c.events-legal.ensures.legal c.oldest.ensures
