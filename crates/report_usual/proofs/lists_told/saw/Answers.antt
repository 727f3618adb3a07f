use Rattle.std.proofs.Common.{◌<◌, ◌≤◌, ◌^◌, arith}
use Rattle.report_usual.proofs.Told.{is_saw}
use Rattle.report_usual.proofs.lists_told.saw.Goals as goal

pub returns : goal.returns
returns c =
    let f = c.in-Some in
    let zero = c.if-number-eq0.false in
    let below = c.if-number.false in
    let some : 1 ≤ f.number = omega arith in
    let small : f.number < 2 ^ 32 = omega arith in
    is_saw c.args.bytes.now f.rest.now c.in_ok-rest.rest.now f.name f.number c.verdicts_behind.new.verdicts f.ensures.text f.ensures.name some small c.in_ok-rest.ensures (c.is_end.ensures c.if-not-is_end.false)
