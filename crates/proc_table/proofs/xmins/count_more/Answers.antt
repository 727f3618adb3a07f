use Rattle.std.proofs.Common.{ℕ}
use Rattle.std.specs.Ordering.{nat_cmp}
use Rattle.counted_map.proofs.Counted.{counts_alike, on_err}
use Rattle.proc_table.specs.Lives.{IsTally}
use Rattle.proc_table.proofs.XminTallies.{more_is}
use Rattle.proc_table.proofs.xmins.count_more.Goals as goal

pub returns-clause-more : goal.returns-clause-more
returns-clause-more c = λ f t. counts_alike nat_cmp _ _ _ (c.in_ok-add.ensures.added f t) (more_is f c.args.xmin)

pub returns-in_err-add-clause-same : goal.returns-in_err-add-clause-same
returns-in_err-add-clause-same c = on_err ((f : ℕ → ℕ) → IsTally f c.args.counts.now → IsTally f c.add.new.self) c.from_residual.result c.in_err-add.ensures.same
