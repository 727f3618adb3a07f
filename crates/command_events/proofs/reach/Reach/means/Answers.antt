use Rattle.std.proofs.Common.{◌≡◌, ◌+◌, ◌-◌, ◌%◌, ◌^◌, arith}
use Rattle.std.proofs.lemmas.Bool.Decides.{nat_tests}
use Rattle.tx_events.proofs.Nearness.{means_is}
use Rattle.command_events.proofs.reach.Reach.means.Goals as goal

pub returns : goal.returns
returns c =
    let gap : c.from-gap.result ≡ (c.args.x.number + 2 ^ 32 - c.args.self.least % 2 ^ 32) % 2 ^ 32 = omega (arith, c.from-gap.ensures) in
    let m = means_is c.args.self.least c.args.self.end c.args.x.number c.from-gap.result gap in
    (λ t. m.0 (grind (arith, nat_tests, c.saturating_sub.ensures)), λ z. let l = m.1 z in grind (arith, nat_tests, c.saturating_sub.ensures))
