use Rattle.std.proofs.Common.{Some, get_or, subst, sym, ap, ◌≡◌, ◌∙◌, ◌<◌, Option, ℕ}
use Rattle.history_check.specs.Links.{id_at}
use Rattle.history_check.proofs.Children.{IsWalked, left, walk_begins, walk_ends, walk_falls, walk_goes_on}
use Rattle.history_check.proofs.links.push_children.Goals as goal

pub loop-next-init : goal.loop-next-init
loop-next-init c = walk_begins c.args.slots.now c.args.place c.index-slots-place.result c.args.found.now.items c.requires.linked c.requires.place

pub loop-next-smaller : goal.loop-next-smaller
loop-next-smaller c =
    let walked = subst (λ (o : Option ℕ). IsWalked c.args.slots.now (id_at c.args.slots.now c.args.place) o c.args.found.now.items c.loop-next.found.items) c.in-Some.is c.loop-next.invariant in
    subst (λ (o : Option ℕ). left (get_or c.args.slots.now c.in-Some.child c.index-slots-child-in-Some.result).linked.before < left o) (sym c.in-Some.is) (walk_falls c.args.slots.now (id_at c.args.slots.now c.args.place) c.in-Some.child c.index-slots-child-in-Some.result c.requires.linked walked.at)

pub loop-next-preserved : goal.loop-next-preserved
loop-next-preserved c =
    let walked = subst (λ (o : Option ℕ). IsWalked c.args.slots.now (id_at c.args.slots.now c.args.place) o c.args.found.now.items c.loop-next.found.items) c.in-Some.is c.loop-next.invariant in
    walk_goes_on c.args.slots.now (id_at c.args.slots.now c.args.place) c.in-Some.child c.index-slots-child.result c.index-slots-child-in-Some.result c.args.found.now.items c.loop-next.found.items c.push_where.new.found.items c.requires.linked walked c.in_ok-push_where.ensures
