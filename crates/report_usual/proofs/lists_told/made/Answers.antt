use Rattle.std.proofs.Common.{◌<◌, ◌^◌, rules}
use Rattle.report_usual.proofs.Told.{is_made}
use Rattle.report_usual.proofs.lists_told.made.Goals as goal

pub returns : goal.returns
returns c =
    let n = c.in-Some in
    let m = c.in-Some-multi_of in
    is_made c.args.bytes.now c.in_ok-rest.rest.now c.pairs_behind.new.members n.number m.multi n.offset c.in_ok-rest.ensures n.ensures.text m.ensures n.ensures.offset
