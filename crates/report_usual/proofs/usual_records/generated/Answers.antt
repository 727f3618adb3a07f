use Rattle.std.proofs.Common.{◌<◌, ◌^◌, rules}
use Rattle.report_usual.proofs.Records.{is_generated}
use Rattle.report_usual.proofs.usual_records.generated.Goals as goal

pub returns : goal.returns
returns c =
    let m = c.in-Some-multi_of in
    let o = c.in-Some-next_number in
    let small : o.offset < 2 ^ 64 = search rules in
    is_generated c.args.number c.args.bytes.now c.in-Some.rest.now o.rest.now c.in_ok-rest.rest.now c.in-Some.id m.multi o.offset c.members_behind.new.members c.in_ok-members.members
    c.in-Some.ensures m.ensures o.ensures small c.in_ok-rest.ensures (c.is_end.ensures c.if-not-is_end.false) c.in_ok-members.ensures
