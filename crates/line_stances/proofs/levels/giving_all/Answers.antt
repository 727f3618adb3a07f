use Rattle.std.proofs.Common.{◌≡◌, ◌+◌, ◌++◌, ◌∷◌, [], List, Some, drop, ap, sym, ◌∙◌, append_assoc}
use Rattle.tx_events.specs.declared.event.Event.{Event}
use Rattle.tx_model.specs.CommandEvents.{giving}
use Rattle.line_stances.specs.Giving.{giving_all}
use Rattle.line_stances.proofs.GivingAll.{giving_step}
use Rattle.line_stances.proofs.levels.giving_all.Goals as goal

pub loop-id-preserved : goal.loop-id-preserved
loop-id-preserved c =
    let items : c.push.new.self.items ≡ c.loop-id.events.items ++ c.giving.result ∷ [] = c.in_ok-push.ensures.items in
    let rest = giving_all c.args.by (Some c.id-item.result) (drop (c.loop-id.id-index + 1) c.args.ids.now) in
    let one = giving c.args.by c.loop-id.above c.id-item.result in
    c.loop-id.invariant
    ∙ ap (λ (t : List Event). c.loop-id.events.items ++ t) (giving_step c.args.by c.loop-id.above c.args.ids.now c.loop-id.id-index c.id-item.result c.loop-id-test.true c.id-item.is)
    ∙ sym (append_assoc c.loop-id.events.items (one ∷ []) rest)
    ∙ ap (λ (t : List Event). t ++ rest) (ap (λ (e : Event). c.loop-id.events.items ++ e ∷ []) (sym c.giving.ensures) ∙ sym items)
