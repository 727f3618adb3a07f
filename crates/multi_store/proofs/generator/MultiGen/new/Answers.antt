use Rattle.std.proofs.Common.{arith}
use Rattle.multi_store.proofs.States.{state_new}
use Rattle.multi_store.proofs.generator.MultiGen.new.Goals as goal

pub invariant_of-result : goal.invariant_of-result
invariant_of-result c = (
  rw (c.new-3.ensures.items, c.same-counters.ensures, c.new.ensures.items) (state_new c.args.base c.new-2.result c.requires c.new-2.ensures),
  omega (arith, c.new-3.ensures.len, c.new-3.ensures.capacity),
)
