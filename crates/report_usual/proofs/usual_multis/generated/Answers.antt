use Rattle.std.proofs.Common.{◌<◌, ◌^◌, rules}
use Rattle.report_usual.proofs.Multis.{is_generated}
use Rattle.report_usual.proofs.usual_multis.generated.Goals as goal

pub returns : goal.returns
returns c =
    let b = c.in-Some in
    let m = c.in-Some-multi_of in
    let o = c.in-Some-next_number in
    let small : o.offset < 2 ^ 64 = search rules in
    is_generated c.args.names.now c.args.bytes.now b.rest.now o.rest.now c.in_ok-rest.rest.now b.by c.of-2.result b.number m.multi o.offset c.members_behind.new.members c.in_ok-members.members
    b.ensures.text b.ensures.fits m.ensures o.ensures small c.in_ok-rest.ensures (c.is_end.ensures c.if-not-is_end.false) c.of-2.ensures c.in_ok-members.ensures
