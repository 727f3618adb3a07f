use Rattle.history_places.proofs.PlaceSteps.{places_after}
use Rattle.history_places.proofs.places.HistoryPlaces.add.Goals as goal

pub invariant_of-self-2 : goal.invariant_of-self-2
invariant_of-self-2 c =
    places_after c.self.inside.replay c.add.new.self c.args.event.now c.self.inside.nexts.items c.self.inside.oldests.items c.self.inside.stops.items c.self.inside.xmins.items
    c.make_one_room.new.items.items c.make_one_room-2.new.items.items c.make_one_room-3.new.items.items c.make_one_room-4.new.items.items
    c.push_reserved.new.self.items c.push_reserved-2.new.self.items c.push_reserved-3.new.self.items c.push_reserved-4.new.self.items
    c.next.result c.oldest.result c.stop_now.result c.oldest_xmin.result
    c.self.invariant (c.in_ok-add.ensures.added c.if-not-branch.false).1
    c.next.ensures c.oldest.ensures c.stop_now.ensures c.oldest_xmin.ensures
    c.make_one_room.ensures.items c.make_one_room-2.ensures.items c.make_one_room-3.ensures.items c.make_one_room-4.ensures.items
    c.push_reserved.ensures.items c.push_reserved-2.ensures.items c.push_reserved-3.ensures.items c.push_reserved-4.ensures.items
