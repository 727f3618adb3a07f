use Rattle.std.proofs.Common.{List}
use Rattle.counted_map.proofs.Counted.{counts_alike, on_err}
use Rattle.tx_events.specs.Multis.{Pin}
use Rattle.multi_store.specs.Pins.{IsTally, pin_cmp, pin_of}
use Rattle.multi_store.proofs.Counts.{count}
use Rattle.multi_store.proofs.Tallies.{tally_more}
use Rattle.multi_store.proofs.pins.add_pin.Goals as goal

pub returns-clause-more : goal.returns-clause-more
returns-clause-more c = λ pins t. counts_alike pin_cmp _ _ _ (c.in_ok-add.ensures.added (λ q. count (pin_of q) pins) t) (tally_more pins c.args.pin)

pub returns-in_err-add-clause-same : goal.returns-in_err-add-clause-same
returns-in_err-add-clause-same c =
    on_err ((pins : List Pin) → IsTally pins c.args.counts.now → IsTally pins c.add.new.self) c.from_residual.result
    (λ pins t. c.in_err-add.ensures.same (λ q. count (pin_of q) pins) t)
