use Rattle.std.proofs.Common.{◌∙◌, arith}
use Rattle.tx_events.specs.Multis.{multi_by}
use Rattle.place_columns.specs.Lined.{places_of}
use Rattle.place_columns.proofs.Copying.{copied_whole, picked_all, picked_next, place_of_event}
use Rattle.reply_lines.proofs.own.multis_at.Goals as goal

pub offset_bounds-multis-place : goal.offset_bounds-multis-place
offset_bounds-multis-place c =
    let n = c.requires.numbers in
    let l = place_of_event multi_by n.0 c.args.number c.loop-place.place-index c.args.multis.now c.args.own.now c.places-place-items.result.now n.1 c.places-place-items.ensures c.loop-place-test.true in
    omega arith

pub bounds-multis-place : goal.bounds-multis-place
bounds-multis-place c =
    let n = c.requires.numbers in
    let l = place_of_event multi_by n.0 c.args.number c.loop-place.place-index c.args.multis.now c.args.own.now c.places-place-items.result.now n.1 c.places-place-items.ensures c.loop-place-test.true in
    omega arith

pub loop-place-preserved : goal.loop-place-preserved
loop-place-preserved c =
    let n = c.requires.numbers in
    let l = place_of_event multi_by n.0 c.args.number c.loop-place.place-index c.args.multis.now c.args.own.now c.places-place-items.result.now n.1 c.places-place-items.ensures c.loop-place-test.true in
    picked_next c.args.multis.now (places_of c.args.number c.args.own.now.numbers) c.places-place-items.result.now c.loop-place.place-index c.in_ok-copy.field-0 c.index-multis-place.result c.loop-place.copies.items c.push.new.self.items
    c.places-place-items.ensures c.loop-place-test.true l c.index-multis-place.is c.in_ok-copy.ensures c.loop-place.invariant c.in_ok-push.ensures.items

pub returns : goal.returns
returns c = λ lines by numbers order at.
    picked_all c.args.multis.now (places_of c.args.number c.args.own.now.numbers) c.places-place-items.result.now c.loop-place.place-index c.loop-place.copies.items c.places-place-items.ensures c.loop-place-test.false c.loop-place.invariant
    ∙ copied_whole multi_by lines c.args.number by c.args.multis.now c.args.own.now numbers order at
