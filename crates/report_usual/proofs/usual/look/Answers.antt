use Rattle.std.proofs.Common.{arith}
use Rattle.report_usual.proofs.Exchanges.{is_look}
use Rattle.report_usual.proofs.usual.look.Goals as goal

pub returns : goal.returns
returns c =
    let small = c.if-number.false in
    is_look c.args.rest.now c.in_ok-name.rest.now c.in_ok-number.rest.now c.in_ok-name.name c.in_ok-number.number c.in_ok-visible.visible c.in_ok-name.ensures.0 c.in_ok-name.ensures.1 c.in_ok-number.ensures (omega arith) c.in_ok-visible.ensures
