use Rattle.std.proofs.Common.{[], ⊎_elim, arith}
use Rattle.tx_events.proofs.Membership.{contains_has}
use Rattle.engine_host.proofs.host.close.Goals as goal

pub close_with-locks-requires-clause-all : goal.close_with-locks-requires-clause-all
close_with-locks-requires-clause-all g c m inside =
    ⊎_elim (λ held. held) (λ k. absurd (contains_has [] m k)) (c.requires.all m (omega (arith, inside, c.requires.host.passes)))
