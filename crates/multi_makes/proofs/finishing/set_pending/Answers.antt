use Rattle.multi_makes.proofs.Making.{recorded_items}
use Rattle.multi_makes.proofs.finishing.set_pending.Goals as goal

pub set_multi-requires-clause-recorded : goal.set_multi-requires-clause-recorded
set_multi-requires-clause-recorded g c = recorded_items _ _ _ _ _ _ _ c.in-Multi.is c.items.ensures c.requires.recorded
