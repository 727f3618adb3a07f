use Rattle.report_usual.proofs.Told.{is_snapped}
use Rattle.report_usual.proofs.lists_told.snapped.Goals as goal

pub returns : goal.returns
returns c =
    let f = c.in-Some in
    let from = c.in-Some-id_of in
    let to = c.in-Some-id_of-2 in
    is_snapped c.args.bytes.now f.rest.now c.in-Some-2.rest.now c.in-Some-behind_piece.rest.now c.in-Some-3.rest.now f.name c.list_behind.new.ids c.list_behind-2.new.ids f.from f.to from.xmin to.xmax c.in_ok-lists.lists
    f.ensures.text f.ensures.name from.ensures to.ensures (rw c.in-Some-2.is at c.in_ok-rest.ensures) c.in-Some-behind_piece.ensures (rw c.in-Some-3.is at c.in_ok-rest-2.ensures) (c.is_piece.ensures c.if-not-is_piece.false) c.in_ok-lists.ensures
