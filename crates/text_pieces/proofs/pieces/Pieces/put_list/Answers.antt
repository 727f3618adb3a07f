use Rattle.std.proofs.Common.{List, ap, rules, ◌++◌, ◌<◌, ◌∙◌, ℕ}
use Rattle.std.proofs.lemmas.Result.{on_ok_weaker}
use Rattle.text_pieces.proofs.Printed.{pieces_text}
use Rattle.text_pieces.proofs.pieces.Pieces.put_list.Goals as goal

pub returns : goal.returns
returns g c =
    let made = c.in_ok-pieces.ensures in
    let some : 0 < c.div_ceil-size.result = search rules in
    on_ok_weaker c.add.result
    (λ k. k.1 ∙ ap (λ (t : List ℕ). c.args.self.now ++ t) (pieces_text (g.X.Listed.line c.args.by.now) c.div_ceil-size.result c.args.items.now c.in_ok-pieces.pieces.items some made.pieces made.count k.0))
    c.add.ensures
