use Rattle.std.proofs.Common.{None, subst, sym, List}
use Rattle.history_check.specs.declared.links.Slot.{Slot}
use Rattle.history_check.specs.Links.{IsAdded}
use Rattle.history_check.proofs.Linking.{top_added}
use Rattle.history_check.proofs.links.push_top.Goals as goal

pub returns : goal.returns
returns c = subst (IsAdded c.args.id None c.args.slots.now.items) (sym c.push_reserved.ensures.items) (top_added c.args.slots.now.items c.args.id c.requires.linked c.requires.above)
