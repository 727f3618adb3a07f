use Rattle.hall.specs.Calls.{view}
use Rattle.hall.proofs.hall.Hall.look_again.Goals as goal

pub returns-in-Some-look-clause-view : goal.returns-in-Some-look-clause-view
returns-in-Some-look-clause-view g c = (view c.loop.pass, c.loop.invariant.3, c.in-Some-look.ensures.view)
