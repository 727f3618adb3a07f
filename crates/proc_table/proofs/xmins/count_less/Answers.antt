use Rattle.std.specs.Ordering.{nat_cmp}
use Rattle.counted_map.proofs.Counted.{counts_alike}
use Rattle.proc_table.specs.Lives.{one_more}
use Rattle.proc_table.proofs.XminTallies.{less_is}
use Rattle.proc_table.proofs.xmins.count_less.Goals as goal

pub returns : goal.returns
returns c = λ f t. counts_alike nat_cmp _ _ _ (c.remove.ensures (one_more c.args.xmin f) t) (less_is f c.args.xmin)
