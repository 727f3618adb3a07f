use Rattle.std.proofs.Common.{sym, ap, subst, ◌∙◌}
use Rattle.std.specs.Ordering.{nat_cmp}
use Rattle.counted_map.proofs.Counted.{counts_alike}
use Rattle.tx_events.specs.declared.multi.MultiEvent.{MultiEvent}
use Rattle.tx_events.specs.Multis.{Pin, pins_after}
use Rattle.multi_rules.specs.Limits.{LetsGoHeld, pinned}
use Rattle.multi_rules.proofs.Tallied.{tally_less, tally_more}
use Rattle.multi_rules.proofs.pins.note_event.Goals as goal

pub returns-in_ok-add-in-Hold : goal.returns-in_ok-add-in-Hold
returns-in_ok-add-in-Hold c = λ held t go.
    let p : Pin = (c.in-Hold.by.session, c.in-Hold.multi) in
    counts_alike nat_cmp _ _ _ (c.in_ok-add-in-Hold.ensures.added (pinned held) t) (λ k. tally_more held p k ∙ ap (λ (e : MultiEvent). pinned (pins_after held e) k) (sym c.in-Hold.is))

pub returns-in-Unhold : goal.returns-in-Unhold
returns-in-Unhold c = λ held t go.
    let p : Pin = (c.in-Unhold.by.session, c.in-Unhold.multi) in
    counts_alike nat_cmp _ _ _ (c.remove.ensures (pinned held) t)
    (λ k. tally_less held p k (subst (λ (e : MultiEvent). LetsGoHeld held e) c.in-Unhold.is go) ∙ ap (λ (e : MultiEvent). pinned (pins_after held e) k) (sym c.in-Unhold.is))
