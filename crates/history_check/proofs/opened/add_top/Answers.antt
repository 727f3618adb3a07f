use Rattle.std.proofs.Common.{None, Some, refl, arith}
use Rattle.history_check.proofs.Noting.{one_more}
use Rattle.history_check.proofs.Slots.{opens_fit}
use Rattle.history_check.proofs.opened.add_top.Goals as goal

pub overflow_add-opened : goal.overflow_add-opened
overflow_add-opened c = omega (arith, opens_fit c.args.opened.now.slots.items, c.requires.kept.count)

pub returns : goal.returns
returns c = one_more c.args.id None c.args.opened.now _ c.requires.kept c.push_top.ensures refl
