use Rattle.history_places.proofs.Closings.{ran_not}
use Rattle.history_places.proofs.ids.was_running.Goals as goal

pub returns-in-None : goal.returns-in-None
returns-in-None c = λ h a l. ran_not h c.args.marks.now c.args.place c.args.x a c.in-None.ensures.none
