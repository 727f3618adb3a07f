use Rattle.report_usual.proofs.Exchanges.{is_dropped}
use Rattle.report_usual.proofs.usual.dropped.Goals as goal

pub returns-then-is_piece : goal.returns-then-is_piece
returns-then-is_piece c = is_dropped c.args.rest.now c.in_ok-name.rest.now c.in_ok-name.name c.in_ok-name.ensures.0 c.in_ok-name.ensures.1 (c.is_piece.ensures c.if-is_piece.true)
