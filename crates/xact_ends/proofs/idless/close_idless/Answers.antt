use Rattle.std.proofs.Common.{refl}
use Rattle.xact_ends.proofs.idless.close_idless.Goals as goal

pub returns : goal.returns
returns g c = record { pass = refl; number = refl; levels = refl; stage = refl; unlinked = refl; making = refl }
