use Rattle.report_usual.proofs.Told.{is_wrote}
use Rattle.report_usual.proofs.lists_told.wrote_many.Goals as goal

pub returns-then-is_end : goal.returns-then-is_end
returns-then-is_end c =
    is_wrote c.args.bytes.now c.in-Some.rest.now c.in-Some-2.rest.now c.list_behind.new.ids c.of-ids.result c.in-Some.ensures (rw c.in-Some-2.is at c.in_ok-rest.ensures) (c.is_end.ensures c.if-is_end.true) c.of-ids.ensures
