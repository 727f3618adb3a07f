use Rattle.std.proofs.Common.{◌≡◌, ◌<◌, ◌↔◌, List, Some, length, map, sym, subst, arith}
use Rattle.std.specs.List.{Contains, slice_get}
use Rattle.std.proofs.lemmas.List.{length-map}
use Rattle.std.proofs.lemmas.Option.{slice_get_within}
use Rattle.tx_events.specs.Events.{by_of}
use Rattle.place_columns.specs.declared.lines.LineAt.{LineAt}
use Rattle.place_columns.specs.Lined.{Numbered, bys_of, places_of}
use Rattle.place_columns.proofs.LinePlaces.{its_places}
use Rattle.multi_rules.specs.declared.taken.Taken.{Taken}
use Rattle.multi_rules.specs.Snapped.{AreTaken}
use Rattle.multi_rules.proofs.Listing.{all_listed, places_ascend, taken_are}
use Rattle.multi_rules.proofs.taken.taken_by_lines.Goals as goal

pub returns : goal.returns
returns g c = λ i by e.
    let lines = c.args.table.now in
    let numbers = c.args.own.now.numbers in
    let snaps = c.args.snaps.now in
    let n = c.loop-line.line in
    let past = c.loop-line-test.false in
    let count : c.count.result ≡ length lines = c.count.ensures in
    let low : i < c.count.result =
    let l = slice_get_within (bys_of lines) i by e in
    let m = length-map lines (λ (l : LineAt). l.by) in
    omega arith
    in
    subst (λ (t : List Taken). AreTaken g.life.first g.life.events by t)
    (sym (all_listed snaps numbers c.loop-line.lists.items n c.count.result i c.loop-line.invariant.size c.loop-line.invariant.listed (λ k l m. c.end_of_taken-end.ensures.none k (omega arith) m) low))
    (taken_are g.life.first g.life.events g.life.all g.life.told snaps by (places_of i numbers) c.requires.1.1.0 c.requires.1.1.1 (places_ascend i 0 numbers)
    (λ p. subst (λ (o : Numbered). (slice_get (map by_of g.life.all) p ≡ Some by) ↔ Contains (places_of i o.numbers) p) (sym c.requires.0) (its_places lines i by c.requires.1.0 e (map by_of g.life.all) p)))
