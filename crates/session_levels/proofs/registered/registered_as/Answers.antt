use Rattle.std.proofs.Common.{sym}
use Rattle.session_levels.proofs.registered.registered_as.Goals as goal

pub returns-clause-found : goal.returns-clause-found
returns-clause-found c = rw (sym c.as_slice.ensures.value, sym c.items.ensures) c.find_registered.ensures.found
