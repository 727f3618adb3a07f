use Rattle.std.proofs.Common.{◌≡◌, ◌+◌, ◌∙◌, arith, length, get_or, vec_len}
use Rattle.std.proofs.lemmas.List.{length-set}
use Rattle.place_columns.proofs.Slots.{placed_more, slot_within}
use Rattle.place_columns.proofs.columns.placed.Goals as goal

pub index_mut-requires : goal.index_mut-requires
index_mut-requires c =
    let fits = slot_within c.args.numbers.now c.args.counts.now c.args.ranks.now c.requires.counts c.requires.ranks c.requires.within c.loop-place.place c.loop-place-test.true in
    let size = c.loop-place.invariant.size in
    let held : vec_len c.loop-place.places ≡ length c.loop-place.places.items = omega (arith, c.loop-place.places.ok.0) in
    omega arith

pub loop-place-preserved : goal.loop-place-preserved
loop-place-preserved c =
    let n = c.loop-place.place in
    let i = c.loop-place.invariant in
    let slot = get_or c.args.counts.now (get_or c.args.numbers.now n 0) 0 + get_or c.args.ranks.now n 0 in
    record {
      size = length-set c.loop-place.places.items slot n ∙ i.size;
      slotted = placed_more c.args.numbers.now c.args.counts.now c.args.ranks.now c.requires.counts c.requires.ranks c.requires.within n c.loop-place.places.items c.loop-place-test.true i.size i.slotted;
    }
