use Rattle.std.proofs.Common.{◌≡◌, map, min, ◌<◌, ◌≤◌, sym, ◌∙◌, ap, arith}
use Rattle.std.specs.List.{fold}
use Rattle.tx_events.specs.Multis.{Pin}
use Rattle.multi_store.specs.Pins.{pin_of}
use Rattle.multi_store.proofs.Counts.{count}
use Rattle.std.proofs.lemmas.Map.Keys.{ge_from_not_lt}
use Rattle.multi_store.proofs.Numbers.{lt_from_cmp}
use Rattle.multi_store.proofs.Tallies.{tally_none, tally_least}
use Rattle.multi_store.proofs.pins.least_pinned.Goals as goal

pub returns-then-lt : goal.returns-then-lt
returns-then-lt c = λ pins t.
    let below : c.in-Some.pin.multi < c.args.next = lt_from_cmp _ _ (sym c.lt.ensures ∙ c.if-lt.true) in
    let is = c.in-Some.ensures (λ q. count (pin_of q) pins) t in
    let least : fold min c.args.next (map (λ (p : Pin). p.1) pins) ≡ min c.args.next c.in-Some.pin.multi = tally_least pins c.in-Some.pin c.args.next is.0 is.1 in
    let one : min c.args.next c.in-Some.pin.multi ≡ c.in-Some.pin.multi = omega arith in
    sym (least ∙ one)

pub returns-else-lt : goal.returns-else-lt
returns-else-lt c = λ pins t.
    let from : c.args.next ≤ c.in-Some.pin.multi = ge_from_not_lt _ _ (sym c.lt.ensures ∙ c.if-lt.false) in
    let is = c.in-Some.ensures (λ q. count (pin_of q) pins) t in
    let least : fold min c.args.next (map (λ (p : Pin). p.1) pins) ≡ min c.args.next c.in-Some.pin.multi = tally_least pins c.in-Some.pin c.args.next is.0 is.1 in
    let one : min c.args.next c.in-Some.pin.multi ≡ c.args.next = omega arith in
    sym (least ∙ one)

pub returns-in-None : goal.returns-in-None
returns-in-None c = λ pins t. sym (ap (λ ps. fold min c.args.next (map (λ (p : Pin). p.1) ps)) (tally_none pins (c.in-None.ensures (λ q. count (pin_of q) pins) t)))
