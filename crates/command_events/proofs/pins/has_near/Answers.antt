use Rattle.std.proofs.Common.{◌≡◌, arith}
use Rattle.std.proofs.lemmas.Bool.Decides.{nat_tests}
use Rattle.tx_events.specs.Nearest.{offset_near}
use Rattle.tx_events.proofs.Nearness.{near_some}
use Rattle.command_events.proofs.pins.has_near.Goals as goal

pub returns : goal.returns
returns c =
    let n = near_some c.args.next c.args.m.number in
    let o : c.from-offset.result ≡ offset_near c.args.next c.args.m.number = omega (arith, c.from-offset.ensures) in
    (λ t. n.1 (grind (arith, nat_tests, c.saturating_add.ensures)), λ z. let l = n.0 z in grind (arith, nat_tests, c.saturating_add.ensures))
