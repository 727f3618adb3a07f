use Rattle.std.proofs.Common.{refl}
use Rattle.engine_parts.proofs.session.count.Goals as goal

pub returns : goal.returns
returns g c = record { pass = refl; number = refl; levels = refl; stage = refl; unlinked = refl; making = refl }
