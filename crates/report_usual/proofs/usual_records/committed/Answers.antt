use Rattle.report_usual.proofs.Records.{is_commit}
use Rattle.report_usual.proofs.usual_records.committed.Goals as goal

pub returns-then-is_end : goal.returns-then-is_end
returns-then-is_end c =
    let x = c.in-Some-id_of in
    is_commit c.args.number c.args.bytes.now c.in-Some.rest.now c.in_ok-rest.rest.now c.ids_behind.new.ids c.in-Some.id x.top c.in-Some.ensures x.ensures c.in_ok-rest.ensures (c.is_end.ensures c.if-is_end.true)
