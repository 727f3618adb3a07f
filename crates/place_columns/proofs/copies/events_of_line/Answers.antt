use Rattle.std.proofs.Common.{◌∙◌, arith}
use Rattle.place_columns.specs.Lined.{places_of}
use Rattle.place_columns.proofs.Copying.{copied_whole, picked_all, picked_next, place_of_event}
use Rattle.place_columns.proofs.copies.events_of_line.Goals as goal

pub offset_bounds-events-place : goal.offset_bounds-events-place
offset_bounds-events-place g c =
    let l = place_of_event g.E.Owned.by g.lines c.args.line c.loop-place.place-index c.args.events.now c.args.own.now c.places-place-items.result.now c.requires.1.0 c.places-place-items.ensures c.loop-place-test.true in
    omega arith

pub bounds-events-place : goal.bounds-events-place
bounds-events-place g c =
    let l = place_of_event g.E.Owned.by g.lines c.args.line c.loop-place.place-index c.args.events.now c.args.own.now c.places-place-items.result.now c.requires.1.0 c.places-place-items.ensures c.loop-place-test.true in
    omega arith

pub loop-place-preserved : goal.loop-place-preserved
loop-place-preserved g c =
    let l = place_of_event g.E.Owned.by g.lines c.args.line c.loop-place.place-index c.args.events.now c.args.own.now c.places-place-items.result.now c.requires.1.0 c.places-place-items.ensures c.loop-place-test.true in
    picked_next c.args.events.now (places_of c.args.line c.args.own.now.numbers) c.places-place-items.result.now c.loop-place.place-index c.in_ok-copy.field-0 c.index-events-place.result c.loop-place.copies.items c.push.new.self.items
    c.places-place-items.ensures c.loop-place-test.true l c.index-events-place.is c.in_ok-copy.ensures c.loop-place.invariant c.in_ok-push.ensures.items

pub returns : goal.returns
returns g c =
    picked_all c.args.events.now (places_of c.args.line c.args.own.now.numbers) c.places-place-items.result.now c.loop-place.place-index c.loop-place.copies.items c.places-place-items.ensures c.loop-place-test.false c.loop-place.invariant
    ∙ copied_whole g.E.Owned.by g.lines c.args.line c.args.by c.args.events.now c.args.own.now c.requires.1.0 c.requires.1.1.0 c.requires.1.1.1
