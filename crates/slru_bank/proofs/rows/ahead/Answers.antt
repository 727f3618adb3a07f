use Rattle.std.proofs.Common.{arith}
use Rattle.slru_bank.proofs.RowLemmas.{near_past}
use Rattle.slru_bank.proofs.rows.ahead.Goals as goal

pub returns-then-near-end : goal.returns-then-near-end
returns-then-near-end c l from below = near_past c.args.per_page c.from-n.result c.args.page c.from.result l (omega arith) (omega arith) c.requires from below (omega (arith, c.if-near-end.true))

pub returns-else-near-end : goal.returns-else-near-end
returns-else-near-end c l from below = near_past c.args.per_page c.from-n.result c.args.page c.from.result l (omega arith) (omega arith) c.requires from (omega (arith, c.if-near-end.false)) below
