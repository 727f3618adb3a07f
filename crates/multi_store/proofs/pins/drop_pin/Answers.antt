use Rattle.counted_map.proofs.Counted.{counts_alike}
use Rattle.multi_store.specs.Pins.{pin_cmp, pin_of}
use Rattle.multi_store.proofs.Counts.{count}
use Rattle.multi_store.proofs.Tallies.{tally_less}
use Rattle.multi_store.proofs.pins.drop_pin.Goals as goal

pub returns : goal.returns
returns c = λ pins t has. counts_alike pin_cmp _ _ _ (c.remove.ensures (λ q. count (pin_of q) pins) t) (λ k. tally_less pins c.args.pin k has)
