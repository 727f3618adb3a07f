use Rattle.std.proofs.Common.{◌≡◌, ◌+◌, ◌++◌, ◌∷◌, [], ℕ, List, ap, arith, refl, sym, take, ◌∙◌}
use Rattle.tx_events.specs.declared.event.Event.{Event}
use Rattle.tx_events.specs.Events.{by_of, given}
use Rattle.place_columns.specs.Lined.{places_of}
use Rattle.place_columns.proofs.Copying.{copied_whole, picked, picked_all, picked_next, place_of_event}
use Rattle.reply_lines.proofs.Pushing.{given_more}
use Rattle.reply_lines.proofs.own.ids_at.Goals as goal

pub offset_bounds-events-place : goal.offset_bounds-events-place
offset_bounds-events-place c =
    let n = c.requires.numbers in
    let l = place_of_event by_of n.0 c.args.number c.loop-place.place-index c.args.events.now c.args.own.now c.places-place-items.result.now n.1 c.places-place-items.ensures c.loop-place-test.true in
    omega arith

pub bounds-events-place : goal.bounds-events-place
bounds-events-place c =
    let n = c.requires.numbers in
    let l = place_of_event by_of n.0 c.args.number c.loop-place.place-index c.args.events.now c.args.own.now c.places-place-items.result.now n.1 c.places-place-items.ensures c.loop-place-test.true in
    omega arith

pub loop-place-preserved : goal.loop-place-preserved
loop-place-preserved c =
    let n = c.requires.numbers in
    let h : List Event = c.args.events.now in
    let places : List ℕ = places_of c.args.number c.args.own.now.numbers in
    let i : ℕ = c.loop-place.place-index in
    let e : Event = c.index-events-place.result in
    let before : List Event = picked h (take i places) in
    let l = place_of_event by_of n.0 c.args.number i h c.args.own.now c.places-place-items.result.now n.1 c.places-place-items.ensures c.loop-place-test.true in
    let more : before ++ e ∷ [] ≡ picked h (take (i + 1) places) =
    picked_next h places c.places-place-items.result.now i e e before (before ++ e ∷ []) c.places-place-items.ensures c.loop-place-test.true l c.index-events-place.is refl refl refl in
    given_more before (picked h (take (i + 1) places)) e c.loop-place.ids.items c.add_id.new.ids.items c.loop-place.invariant (sym more) c.in_ok-add_id.ensures

pub returns : goal.returns
returns c = λ lines by numbers order at.
    let h : List Event = c.args.events.now in
    let places : List ℕ = places_of c.args.number c.args.own.now.numbers in
    c.loop-place.invariant
    ∙ ap given (picked_all h places c.places-place-items.result.now c.loop-place.place-index (picked h (take c.loop-place.place-index places)) c.places-place-items.ensures c.loop-place-test.false refl)
    ∙ ap given (copied_whole by_of lines c.args.number by h c.args.own.now numbers order at)
