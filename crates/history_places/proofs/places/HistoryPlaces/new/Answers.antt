use Rattle.std.proofs.Common.{ap}
use Rattle.history_check.specs.Replays.{Replayed}
use Rattle.history_places.proofs.PlaceSteps.{places_start}
use Rattle.history_places.proofs.places.HistoryPlaces.new.Goals as goal

pub invariant_of-result : goal.invariant_of-result
invariant_of-result c =
    places_start c.in_ok-replay.replay c.in_ok-nexts.nexts.items c.in_ok-oldests.oldests.items c.in_ok-stops.stops.items c.in_ok-xmins.xmins.items c.next.result c.oldest.result c.stop_now.result c.oldest_xmin.result
    (ap (λ (r : Replayed). r.events) c.in_ok-replay.ensures) c.in_ok-nexts.ensures c.in_ok-oldests.ensures c.in_ok-stops.ensures c.in_ok-xmins.ensures
    c.next.ensures c.oldest.ensures c.stop_now.ensures c.oldest_xmin.ensures
