use Rattle.std.proofs.Common.{arith}
use Rattle.history_check.proofs.Insides.{search_begins, search_ends, search_goes_on}
use Rattle.history_check.proofs.inside.places_inside.Goals as goal

pub loop-next-init : goal.loop-next-init
loop-next-init c = search_begins c.args.table.now.base c.args.table.now.events c.args.session c.args.id c.args.slots.now c.events-legal.ensures.legal c.requires.opened _ c.in_ok-found.ensures

pub returns-then-next-len : goal.returns-then-next-len
returns-then-next-len c =
    search_ends c.args.table.now.base c.args.table.now.events c.args.session c.args.id c.args.slots.now c.events-legal.ensures.legal c.requires.opened c.loop-next.found.items c.loop-next.next c.loop-next.invariant (omega arith)

pub loop-next-preserved : goal.loop-next-preserved
loop-next-preserved c =
    search_goes_on c.args.table.now.base c.args.table.now.events c.args.session c.args.id c.args.slots.now c.events-legal.ensures.legal c.requires.opened c.loop-next.found.items c.push_children.new.found.items c.loop-next.next c.index.result.now _ c.loop-next.invariant (omega arith) c.index.ensures c.in_ok-push_children.ensures
