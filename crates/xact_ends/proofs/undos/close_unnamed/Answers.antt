use Rattle.std.proofs.Common.{refl}
use Rattle.xact_ends.proofs.undos.close_unnamed.Goals as goal

pub returns : goal.returns
returns g c = record { pass = refl; number = refl; levels = refl; stage = refl; unlinked = refl; making = refl }
