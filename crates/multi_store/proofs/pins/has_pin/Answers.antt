use Rattle.std.proofs.Common.{sym, ◌∙◌}
use Rattle.multi_store.specs.Pins.{pin_of}
use Rattle.multi_store.proofs.Counts.{count}
use Rattle.multi_store.proofs.Tallies.{tally_has, has_tally}
use Rattle.multi_store.proofs.pins.has_pin.Goals as goal

pub returns : goal.returns
returns c = λ pins t.
    let is = c.contains.ensures (λ q. count (pin_of q) pins) t in
    (λ e. tally_has pins (pin_of c.args.pin) (sym is ∙ e), λ h. is ∙ has_tally pins (pin_of c.args.pin) h)
