use Rattle.report_usual.proofs.Exchanges.{is_wrote_one, is_wrote_two}
use Rattle.report_usual.proofs.usual.wrote.Goals as goal

pub returns-then-is_end : goal.returns-then-is_end
returns-then-is_end c =
    is_wrote_one c.args.rest.now c.in_ok-number.rest.now c.one-ids.result c.in_ok-number.number c.in_ok-id.id c.in_ok-number.ensures c.in_ok-id.ensures.0 c.in_ok-id.ensures.1 (c.is_end.ensures c.if-is_end.true) c.one-ids.ensures

pub returns-then-is_end-2 : goal.returns-then-is_end-2
returns-then-is_end-2 c =
    is_wrote_two c.args.rest.now c.in_ok-number.rest.now c.in_ok-rest.rest.now c.in_ok-number-2.rest.now c.two-ids.result c.in_ok-number.number c.in_ok-id.id c.in_ok-number-2.number c.in_ok-second.second c.in_ok-number.ensures c.in_ok-id.ensures.0 c.in_ok-id.ensures.1
    c.in_ok-rest.ensures c.in_ok-number-2.ensures c.in_ok-second.ensures.0 c.in_ok-second.ensures.1 (c.is_end-2.ensures c.if-is_end-2.true) c.two-ids.ensures
