use Rattle.history_places.proofs.StartFound.{start_found}
use Rattle.history_places.proofs.start.is_start.Goals as goal

pub returns-in-Some : goal.returns-in-Some
returns-in-Some c = start_found c.args.starts.now c.args.multi c.args.offset c.in-Some.place c.index-starts-place.result c.requires c.in-Some.ensures.some
